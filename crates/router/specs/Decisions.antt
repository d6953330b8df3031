-- What happens to a wanted self-originated LSA, and the router afterwards.
use Rattle.std.specs.Prelude.{Bool, ◌&&◌, if◌then◌else◌, Option, None, Some}
use Rattle.words.specs.Numbers.{Moment}
use Rattle.words.specs.declared.key.Key.{Key}
use Rattle.lsa.specs.declared.body.LsaBody.{LsaBody}
use Rattle.lsdb.specs.Copies.{DatabaseCopy}
use Rattle.lsdb.specs.Headers.{Lsa}
use Rattle.event_rules.specs.EventState.{EventState, on_area, on_router}
use Rattle.event_rules.specs.Originations.{as_originated, flush, has_max_sequence}
use Rattle.event_rules.specs.Originations.{install_and_flood}
use Rattle.event_rules.specs.Originations.{interval_is_over, new_instance, postpone}
use Rattle.router.specs.declared.origination.Origination.{Origination}
use Rattle.router.specs.declared.origination.Origination.TheVariants.{Flushes, Waits}
use Rattle.router.specs.declared.origination.Origination.TheVariants.{Originates}

abbrev pub of_instance : Option Lsa → Origination
of_instance None = Flushes
of_instance (Some lsa) = Originates lsa

abbrev pub unless_flushed : Option DatabaseCopy → Origination
unless_flushed copy = if has_max_sequence copy then Flushes else Waits

-- at once, if `may_now` and MinLSInterval since the last origination allow it, else at a Tick;
-- after MaxSequenceNumber the copy is flushed first
abbrev pub origination : (may_now : Bool) → Moment → Key → LsaBody → Option DatabaseCopy
    → (last : Option Moment) → Origination
origination may_now moment key contents copy last =
    if has_max_sequence copy then Flushes
    else if may_now && interval_is_over moment last then Originates (new_instance key copy contents)
    else Waits

-- the state after the decision is carried out
abbrev pub after_origination : Moment → Key → Origination → EventState → EventState
after_origination moment key Flushes p = flush moment key p
after_origination moment key Waits p = on_router (postpone key) p
after_origination moment key (Originates lsa) p =
    on_router (as_originated moment key) (on_area (install_and_flood moment lsa) p)
