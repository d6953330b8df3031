-- What each step of a neighbor, but for Descriptions, makes of an entry of its request list: it
-- stays, unless flooding meets it, or the conversation is over.
use Rattle.std.proofs.Common.{◌≡◌, ℕ, Bool, true, false, cond, ◌⊎◌, inl, inr, List}
use Rattle.std.proofs.Common.{Option, None, Some, refl, sym, subst, ◌∙◌}
use Rattle.std.specs.FinMap as finite
use Rattle.std.proofs.lemmas.Bool.{not-true}
use Rattle.words.specs.declared.key.Key.{Key}
use Rattle.lsdb.specs.Copies.{Database}
use Rattle.lsdb.specs.Headers.{Header, Lsa, lsa_key}
use Rattle.lsdb.specs.Instances.{ListEntry, instance_of, listed_now, older_than_listed}
use Rattle.lsdb.specs.Keys.{same_key}
use Rattle.lsdb.specs.declared.order.Instance.{Instance}
use Rattle.adjacency.specs.declared.state.NeighborState.TheVariants.{Loading, Full}
use Rattle.adjacency.specs.Adjacencies.{after_hello, enter_exstart, loading_done, mismatch_step}
use Rattle.adjacency.specs.Descriptions.{repeat, without_old_description}
use Rattle.adjacency.specs.Floods.{flooding, satisfies_request, request_of}
use Rattle.adjacency.specs.Floods.{without_satisfied_request}
use Rattle.adjacency.specs.Neighbors.{Neighbor, fresh, is_exchange_or_later, is_exchange_or_loading}
use Rattle.adjacency.specs.Requests.{request_next, requested_entry, without_request}
use Rattle.adjacency.specs.Retransmissions.{after_acknowledgment, send_again}
use Rattle.adjacency.proofs.Kept.{chosen}
use Rattle.received.specs.Holds.{Holds}
use Rattle.invariants.proofs.Limits.{tied_key}
use Rattle.invariants.proofs.Owing.{removed_other}
use Rattle.agreement_laws.specs.Exchanged.{Conversation, conversation_with}
use Rattle.agreement_laws.specs.Ranks.{RanksFollowTheComparison, is_at_least}
use Rattle.agreement_laws.proofs.Ranks.{at_least_on}
use Rattle.agreement_laws.proofs.Steps as steps

module _ (ranks : RanksFollowTheComparison) (key : Key) (moment : ℕ) (first : Instance)
    (entry : ListEntry) (low : is_at_least (listed_now moment entry) first ≡ true)
    (with_it : Conversation) (May : Type 0) where
  -- it isn't in the conversation in Exchange or later, and that may be
  abbrev pub IsOver : Neighbor → Type 0
  IsOver m = May × (is_exchange_or_later m.state ≡ true → conversation_with m ≡ with_it → ⊥)

  abbrev pub IsAsked : Neighbor → Type 0
  IsAsked m = (conversation_with m ≡ with_it) × (finite.get m.requests key ≡ Some entry)

  abbrev pub Asking : Neighbor → Type 0
  Asking m = IsOver m ⊎ IsAsked m

  -- ---- flooding

  -- the LSA is of the key, and as new
  abbrev pub IsMet : Lsa → Type 0
  IsMet lsa = (same_key key (lsa_key lsa) ≡ true)
      × (is_at_least (instance_of lsa.header) first ≡ true)

  met_entry : (b : Bool) (lsa : Lsa) (o : Option ListEntry) → o ≡ Some entry
      → satisfies_request moment lsa (cond b o None) ≡ true → is_at_least (instance_of lsa.header)
      first ≡ true
  met_entry false lsa o is e = absurd cc
  met_entry true lsa None is e = absurd cc
  met_entry true lsa (Some r) is e =
      at_least_on ranks.total (instance_of lsa.header) (listed_now moment r) first
      (ranks.not_newer (listed_now moment r) (instance_of lsa.header)
      (not-true (older_than_listed moment lsa.header r) e))
      (subst (λ (l : ListEntry). is_at_least (listed_now moment l) first ≡ true) (sym same) low)
    where
      same : r ≡ entry
      same = cc

  met_where : (lsa : Lsa) (m : Neighbor) → Asking m → Asking
      (without_satisfied_request moment lsa m)
      ⊎ IsMet lsa
  met_where lsa m h =
      chosen (λ (n : Neighbor). Asking n ⊎ IsMet lsa)
      (satisfies_request moment lsa (request_of m lsa))
      (without_request (lsa_key lsa) m) m (λ e. by_case e h) (λ e. inl h)
    where
      by_key : (b : Bool) → same_key key (lsa_key lsa) ≡ b → satisfies_request moment lsa
          (request_of m lsa)
          ≡ true → IsAsked m → Asking (without_request (lsa_key lsa) m) ⊎ IsMet lsa
      by_key true same e at =
          inr (
            same,
            met_entry (is_exchange_or_loading m.state) lsa
                (requested_entry m (lsa_key lsa))
                (subst (λ (k : Key). finite.get m.requests k ≡ Some entry)
                (tied_key key (lsa_key lsa) same) at.1) e,
          )
      by_key false other e at = inl (inr
          (at.0, removed_other m.requests (lsa_key lsa) key other ∙ at.1))

      by_case : satisfies_request moment lsa (request_of m lsa) ≡ true → Asking m
          → Asking (without_request (lsa_key lsa) m) ⊎ IsMet lsa
      by_case e (inl over) = inl (inl over)
      by_case e (inr at) = by_key (same_key key (lsa_key lsa)) refl e at

  pub flooded : (from : Bool) (lsa : Lsa) (m : Neighbor) → Asking m
      → Asking (flooding moment from lsa m).neighbor ⊎ IsMet lsa
  flooded from lsa m h =
      let met : Asking (without_satisfied_request moment lsa m) ⊎ IsMet lsa = met_where lsa m h in
      steps.flooded (λ (x : Neighbor). Asking x ⊎ IsMet lsa) moment from lsa m met met (inl h)

  -- ---- attempts and Hellos

  begins : May → (router : ℕ) (attempt : Option ℕ) (heard : ℕ) → Asking (fresh router attempt heard)
  begins may router attempt heard = inl (may, λ on same. absurd cc)

  restarts : May → (m : Neighbor) → Asking (enter_exstart moment m).neighbor
  restarts may m = inl (may, λ on same. absurd cc)

  pub mismatched : May → (m : Neighbor) → Asking m → Asking (mismatch_step moment m).neighbor
  mismatched may m h = steps.mismatched Asking moment m (restarts may m) h

  pub helloed : May → (from : ℕ) (names : Bool) (o : Option Neighbor) → Holds Asking o
      → Asking (after_hello moment from names o).neighbor
  helloed may from names o h =
      steps.helloed Asking (begins may) moment (restarts may) from names o h

  -- ---- acknowledgments, Loading, Requests and the old Description

  pub acknowledged : (xs : List Header) (m : Neighbor) → Asking m
      → Asking (after_acknowledgment moment xs m)
  acknowledged xs m h = steps.acknowledged Asking (λ k n so. so) moment xs m h

  pub filled : (m : Neighbor) → Asking m → Asking (loading_done m)
  filled m h = steps.filled Asking m still h
    where
      still : Asking (record m { state = Loading }) → Asking (record m { state = Full })
      still (inl over) = inl (over.0, λ on same. over.1 refl same)
      still (inr at) = inr at

  pub asked : (m : Neighbor) → Asking m → Asking (request_next moment m).neighbor
  asked m h = steps.asked Asking moment m h

  pub repeated : (m : Neighbor) → Asking m → Asking (repeat moment m).neighbor
  repeated m h = steps.repeated Asking moment m h

  pub again : (interval : ℕ) (db : Database) (m : Neighbor) → Asking m
      → Asking (send_again moment interval db m).neighbor
  again interval db m h = steps.again Asking moment interval db m h

  pub old_description : (dead : ℕ) (m : Neighbor) → Asking m
      → Asking (without_old_description moment dead m)
  old_description dead m h = steps.old_description Asking moment dead m (λ e. h) h
