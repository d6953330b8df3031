-- The instance of a key through an event: it stays, or is replaced by one that is at least as new,
-- until it is removed.
use Rattle.std.proofs.Common.{◌≡◌, ℕ, inl, List, [], Some, subst, sym}
use Rattle.std.specs.FinMap as finite
use Rattle.words.specs.declared.key.Key.{Key}
use Rattle.lsdb.specs.Copies.{Database, DatabaseCopy, copy_now}
use Rattle.lsdb.specs.Keys.{ByKey}
use Rattle.lsdb.specs.declared.order.Instance.{Instance}
use Rattle.received.specs.AreaStates.{AreaState}
use Rattle.event_rules.specs.declared.model.Out.{Out}
use Rattle.event_rules.specs.Endings.{start_event}
use Rattle.event_rules.specs.Events.{Happens}
use Rattle.event_rules.specs.Routers.{Occurrence, Router}
use Rattle.event_rules.proofs.Walk.{outcome}
use Rattle.invariants.specs.InOrder.{IsConsistent}
use Rattle.invariants.proofs.Acknowledged.{in_order, order_begun, order_brings, order_kept}
use Rattle.invariants.proofs.EventWalk.{IsKeptToo, event_kept_too}
use Rattle.agreement_laws.specs.CopiesClimb.{BecameOf, CopiesClimb, HasHad}
use Rattle.agreement_laws.proofs.Databases.{IsKept, ages, kept_too}
use Rattle.agreement_laws.proofs.Having.{Whole, joined, whole_at, whole_begun, whole_kept}
use Rattle.agreement_laws.proofs.Holding.{HasEnded, IsHeldAsNew, held_flushed, held_installed}
use Rattle.agreement_laws.proofs.Holding.{held_originated, held_removed, held_sent, in_words}
use Rattle.agreement_laws.proofs.Ranks.{follow, itself_at_least}

module _ (key : Key) (old : Router) (moment : ℕ) (event : Occurrence) (copy : DatabaseCopy)
    (there : finite.get old.area.database key ≡ Some copy) where
  abbrev first : Instance
  first = copy_now moment copy

  abbrev Climbs : Database → Type 0
  Climbs db = IsHeldAsNew follow key moment first db

  abbrev IsWhole : AreaState → ByKey ℕ → Type 0
  IsWhole o t = Whole old event moment o.area.database

  abbrev X : AreaState → ByKey ℕ → Type 0
  X o t = Climbs o.area.database

  abbrev Y : AreaState → ByKey ℕ → Type 0
  Y o t = HasEnded follow key moment first (HasHad old event key) o.area

  abbrev Both : AreaState → ByKey ℕ → Type 0
  Both o t = X o t × IsWhole o t

  abbrev Anything : AreaState → ByKey ℕ → Type 0
  Anything o t = Unit {0}

  kept : IsKept old.id moment Climbs
  kept = record {
    marks = held_sent follow key moment first;
    flushes = held_flushed follow key moment first;
    originates = λ k says db own its_key h. held_originated follow key moment first k says db
        its_key h;
  }

  each_part : IsKeptToo (in_order old.id) Both Y (start_event moment old) moment event
  each_part =
      joined (in_order old.id) X IsWhole Anything Anything Y (start_event moment old) moment event
      (kept_too old moment event Climbs kept
      (λ place packet heard lsa among db newer h. held_installed follow key moment first lsa db
      newer
      h))
      (whole_kept old event moment)
      (λ o t h whole. held_removed follow key moment first (HasHad old event key) o.area
      (λ c at. whole_at old event moment o.area.database key c whole at) h)
      (λ o t h whole. inl h)

  begun : X (outcome (start_event moment old)) old.originated
  begun =
      ages old.id moment Climbs kept old.moment (finite.entries old.area.database) (record {
        area = old.area;
        sends = [];
      }) (copy, there, itself_at_least first)

  became : (outs : List Out) (new : Router) → Happens old moment event outs new → IsConsistent old
      → BecameOf old moment event first key new
  became outs new happens order =
      in_words follow key moment first old event new
      (subst (λ (r : Router). HasEnded follow key moment first (HasHad old event key) r.area)
      (sym happens.router)
      (event_kept_too (in_order old.id) (order_kept old.id) Both Y old moment event each_part
      happens.after (order_brings old event) happens.own (order_begun old moment order)
      (begun, whole_begun old event moment)))

pub copies_climb : CopiesClimb
copies_climb old moment event outs new happens order key copy there =
    became key old moment event copy there outs new happens order
