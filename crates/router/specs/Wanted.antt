-- What happens to the self-originated LSA of a key, if it is wanted (RFC 2328, section 12.4).
use Rattle.std.specs.Prelude.{Bool, Option, None, Some}
use Rattle.std.specs.FinMap as finite
use Rattle.words.specs.Numbers.{Moment}
use Rattle.words.specs.declared.key.Key.{Key}
use Rattle.lsa.specs.declared.body.LsaBody.{LsaBody}
use Rattle.event_rules.specs.EventState.{EventState}
use Rattle.event_rules.specs.Originations.{originate_body, wanted_body}
use Rattle.event_rules.specs.Routers.{Router}
use Rattle.router.specs.Decisions.{origination}
use Rattle.router.specs.declared.origination.Origination.{Origination}

-- with this body of the LSA
abbrev pub wanted_origination : (may_now : Bool) → Moment → Key → Router → Option LsaBody
    → Option Origination
wanted_origination may_now moment key r None = None
wanted_origination may_now moment key r (Some contents) = Some
    (origination may_now moment key contents
    (finite.get r.area.database key) (finite.get r.originated key))

-- a new instance at once or at a Tick, if the LSA is wanted
abbrev pub originate_if_wanted : (may_now : Bool) → Moment → Key → EventState → EventState
originate_if_wanted may_now moment key p =
    originate_body may_now moment key (wanted_body p.router key) p
