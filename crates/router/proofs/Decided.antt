-- Deciding about a self-originated LSA and carrying that out, by cases.
use Rattle.std.proofs.Common.{◌≡◌, ℕ, Bool, true, false, cond, ◌&&◌, Option, refl}
use Rattle.std.specs.FinMap as finite
use Rattle.words.specs.declared.key.Key.{Key}
use Rattle.lsdb.specs.Copies.{DatabaseCopy}
use Rattle.lsdb.specs.Headers.{Lsa}
use Rattle.event_rules.specs.EventState.{EventState, on_router}
use Rattle.event_rules.specs.Originations.{flush, has_max_sequence, may_originate, new_instance}
use Rattle.event_rules.specs.Originations.{postpone}
use Rattle.router.specs.Decisions.{after_origination}
use Rattle.router.specs.Laws.{OriginationsAreTheRules}
use Rattle.router.specs.declared.origination.Origination.TheVariants.{Flushes, Waits}
use Rattle.router.specs.declared.origination.Origination.TheVariants.{Originates}

done_by : (flushed now : Bool) (moment : ℕ) (key : Key) (lsa : Lsa) (p : EventState)
    → after_origination moment key (cond flushed Flushes (cond now (Originates lsa) Waits)) p
    ≡ cond flushed (flush moment key p)
    (cond now (after_origination moment key (Originates lsa) p) (on_router (postpone key) p))
done_by true now moment key lsa p = refl
done_by false true moment key lsa p = refl
done_by false false moment key lsa p = refl

pub are_the_rules : OriginationsAreTheRules
are_the_rules may_now moment key says p =
    let copy : Option DatabaseCopy = finite.get p.router.area.database key in
    done_by (has_max_sequence copy) (may_now && may_originate moment key p.router) moment key
    (new_instance key copy says) p
