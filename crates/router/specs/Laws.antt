-- Deciding about a self-originated LSA and carrying that out is what the rules of an event say.
use Rattle.std.specs.Prelude.{◌≡◌, ℕ, Bool, Some}
use Rattle.std.specs.FinMap as finite
use Rattle.words.specs.declared.key.Key.{Key}
use Rattle.lsa.specs.declared.body.LsaBody.{LsaBody}
use Rattle.event_rules.specs.EventState.{EventState}
use Rattle.event_rules.specs.Originations.{originate_body}
use Rattle.router.specs.Decisions.{after_origination, origination}

abbrev pub OriginationsAreTheRules : Type 0
OriginationsAreTheRules =
    (may_now : Bool) (moment : ℕ) (key : Key) (contents : LsaBody) (p : EventState)
    → after_origination moment key (origination may_now moment key contents
    (finite.get p.router.area.database key) (finite.get p.router.originated key)) p
    ≡ originate_body may_now moment key (Some contents) p
