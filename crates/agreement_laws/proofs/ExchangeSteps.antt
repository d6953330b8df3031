-- What each step of a neighbor, but for Descriptions, makes of its exchange: it stays as it is,
-- or the conversation is over.
use Rattle.std.proofs.Common.{◌≡◌, ℕ, Bool, true, ◌⊎◌, inl, inr, List, Option, refl}
use Rattle.lsdb.specs.Headers.{Header, Lsa}
use Rattle.adjacency.specs.declared.state.NeighborState.TheVariants.{Loading, Full}
use Rattle.adjacency.specs.Adjacencies.{after_hello, enter_exstart, loading_done, mismatch_step}
use Rattle.adjacency.specs.Descriptions.{without_old_description}
use Rattle.adjacency.specs.Floods.{flooding, without_satisfied_request}
use Rattle.adjacency.specs.Neighbors.{Neighbor, fresh, is_exchange_or_later}
use Rattle.adjacency.specs.Retransmissions.{after_acknowledgment}
use Rattle.received.specs.Holds.{Holds}
use Rattle.agreement_laws.specs.Exchanged.{conversation_with}
use Rattle.agreement_laws.proofs.Steps as steps

module _ (n : Neighbor) where
  -- it isn't in the conversation in Exchange or later
  abbrev pub IsOver : Neighbor → Type 0
  IsOver m = is_exchange_or_later m.state ≡ true → conversation_with m ≡ conversation_with n → ⊥

  abbrev pub IsSame : Neighbor → Type 0
  IsSame m =
      (conversation_with m ≡ conversation_with n) × (m.is_master ≡ n.is_master)
      × (m.sequence ≡ n.sequence) × (m.received ≡ n.received) × (m.summary ≡ n.summary)

  abbrev pub Standing : Neighbor → Type 0
  Standing m = IsOver m ⊎ IsSame m

  begins : (router : ℕ) (attempt : Option ℕ) (heard : ℕ) → Standing (fresh router attempt heard)
  begins router attempt heard = inl (λ on same. absurd cc)

  restarts : (moment : ℕ) (m : Neighbor) → Standing (enter_exstart moment m).neighbor
  restarts moment m = inl (λ on same. absurd cc)

  pub flooded : (moment : ℕ) (from : Bool) (lsa : Lsa) (m : Neighbor) → Standing m
      → Standing (flooding moment from lsa m).neighbor
  flooded moment from lsa m h =
      let met : Standing (without_satisfied_request moment lsa m) =
      steps.met Standing moment lsa m h h in steps.flooded Standing moment from lsa m met met h

  pub mismatched : (moment : ℕ) (m : Neighbor) → Standing m
      → Standing (mismatch_step moment m).neighbor
  mismatched moment m h = steps.mismatched Standing moment m (restarts moment m) h

  pub helloed : (moment from : ℕ) (names : Bool) (o : Option Neighbor) → Holds Standing o
      → Standing (after_hello moment from names o).neighbor
  helloed moment from names o h =
      steps.helloed Standing begins moment (restarts moment) from names o h

  pub acknowledged : (moment : ℕ) (xs : List Header) (m : Neighbor) → Standing m
      → Standing (after_acknowledgment moment xs m)
  acknowledged moment xs m h = steps.acknowledged Standing (λ k n so. so) moment xs m h

  pub filled : (m : Neighbor) → Standing m → Standing (loading_done m)
  filled m h = steps.filled Standing m still h
    where
      still : Standing (record m { state = Loading }) → Standing (record m { state = Full })
      still (inl over) = inl (λ on same. over refl same)
      still (inr at) = inr at

  pub old_description : (moment dead : ℕ) (m : Neighbor) → Standing m
      → Standing (without_old_description moment dead m)
  old_description moment dead m h = steps.old_description Standing moment dead m (λ e. h) h

  -- ---- if it isn't over

  pub same_flooded : (moment : ℕ) (from : Bool) (lsa : Lsa) (m : Neighbor) → IsSame m
      → IsSame (flooding moment from lsa m).neighbor
  same_flooded moment from lsa m h =
      let met : IsSame (without_satisfied_request moment lsa m) =
      steps.met IsSame moment lsa m h h in steps.flooded IsSame moment from lsa m met met h

  pub same_filled : (m : Neighbor) → IsSame m → IsSame (loading_done m)
  same_filled m h = steps.filled IsSame m (λ so. so) h
