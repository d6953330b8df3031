-- Worked examples of what leaves a router's database.
use Rattle.std.proofs.Common.{◌≡◌, ◌⊎◌, ℕ, true, None, Some, inl, inr, sym, subst, ◌∙◌}
use Rattle.std.specs.FinMap as finite
use Rattle.std.proofs.lemmas.Bool.{eqb-true}
use Rattle.words.specs.declared.key.Key.{Key}
use Rattle.lsdb.specs.Headers.{Lsa}
use Rattle.lsdb.specs.Order.{is_max_age}
use Rattle.lsdb.specs.declared.order.Instance.{Instance}
use Rattle.event_rules.specs.Routers.{Occurrence, Router}
use Rattle.invariants.specs.NewInstances.{BringsLsa}
use Rattle.agreement_laws.specs.CopiesClimb.{BecameOf, BringsNone, HasHad}
use Rattle.agreement_laws.specs.Ranks.{is_at_least}
use Rattle.agreement_laws.specs.WorkedCopies.{Holds, HoldsAtMaxAge, WorkedCopies}

module _ (old : Router) (moment : ℕ) (event : Occurrence) (instance : Instance) (key : Key)
    (new : Router) (others : key.advertising_router ≡ old.id → ⊥) where
  -- nothing of the key was there
  nothing : finite.get old.area.database key ≡ None → BringsNone event key → (last : Instance)
      → HasHad old event key last → ⊥
  nothing none brings last (HasHad.Before c at is) = let no : None ≡ Some c = sym none ∙ at in
      absurd cc
  nothing none brings last (HasHad.Brought lsa brought its_key is) = brings lsa brought its_key
  nothing none brings last (HasHad.Own own) = others own

  absent : finite.get old.area.database key ≡ None → BringsNone event key
      → BecameOf old moment event instance key new → Holds new key
  absent none brings (BecameOf.IsHeld c at as_new) = record { copy = c; there = at }
  absent none brings (BecameOf.IsGone last had as_new aged gone off) =
      absurd (nothing none brings last had)

  -- the copy, at MaxAge, is the last instance
  left : (last : Instance) → HasHad old event key last → ((lsa : Lsa) → BringsLsa event lsa → ⊥)
      → is_at_least last instance ≡ true → is_max_age last.age ≡ true
      → HoldsAtMaxAge old key instance
  left last (HasHad.Before c at is) brings as_new aged =
      let same : last ≡ record {
        sequence = c.lsa.header.sequence;
        checksum = c.lsa.header.checksum;
        age = 3600;
      } =
      (λ i. record {
        sequence = (sym is.sequence) i;
        checksum = (sym is.checksum) i;
        age = eqb-true last.age 3600 aged i;
      }) in
      record {
        copy = c;
        there = at;
        as_new = subst (λ (x : Instance). is_at_least x instance ≡ true)
            same as_new;
      }
  left last (HasHad.Brought lsa brought its_key is) brings as_new aged = absurd (brings lsa brought)
  left last (HasHad.Own own) brings as_new aged = absurd (others own)

  on_tick : ((lsa : Lsa) → BringsLsa event lsa → ⊥) → BecameOf old moment event instance key new
      → Holds new key ⊎ HoldsAtMaxAge old key instance
  on_tick brings (BecameOf.IsHeld c at as_new) = inl (record { copy = c; there = at })
  on_tick brings (BecameOf.IsGone last had as_new aged gone off) =
      inr (left last had brings as_new aged)

no_packet : (lsa : Lsa) → BringsLsa Occurrence.Tick lsa → ⊥
no_packet lsa brought = let no : Occurrence.Tick
    ≡ Occurrence.Packet brought.interface brought.bytes =
    brought.is in absurd cc

pub worked : WorkedCopies
worked = record {
  absent = λ old moment event instance key new foreign brings became. absent old moment event
      instance key new foreign.others foreign.absent brings became;
  tick = λ old moment instance key new others became. on_tick old moment Occurrence.Tick instance
      key new others no_packet became;
}
