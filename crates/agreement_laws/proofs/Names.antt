-- Instances by their sequence numbers and checksums only.
use Rattle.std.proofs.Common.{◌≡◌, Bool, true, false, refl, sym, ap, ◌∙◌}
use Rattle.std.specs.declared.cmp.Ordering.{Ordering}
use Rattle.std.specs.declared.cmp.Ordering.TheVariants.{Less, Equal, Greater}
use Rattle.std.specs.Ordering.{bool_cmp, int_cmp, is_ge, nat_cmp, ordering_reverse, ordering_then}
use Rattle.std.specs.FinMap.{int_cmp-IsAntisymmetric, nat_cmp-IsAntisymmetric}
use Rattle.lsdb.specs.Order.{is_max_age}
use Rattle.lsdb.specs.declared.order.Instance.{Instance}
use Rattle.event_rules.specs.InstanceIdentities.{InstanceIdentity}
use Rattle.agreement_laws.specs.NeighborsAgree.{is_as_new}
use Rattle.agreement_laws.specs.Ranks.{compare_ranks, is_at_least}
use Rattle.agreement_laws.specs.SaidIsHeld.{young}
use Rattle.agreement_laws.proofs.Ranks.{at_least_on, equal_parts, follow}

without_flags : (r s : Ordering) (p q : Bool)
    → is_ge (ordering_then r (ordering_then s (bool_cmp p q))) ≡ true
    → is_ge (ordering_then r (ordering_then s (bool_cmp false false))) ≡ true
without_flags Less s p q e = absurd cc
without_flags Greater s p q e = refl
without_flags Equal Less p q e = absurd cc
without_flags Equal Greater p q e = refl
without_flags Equal Equal p q e = refl

-- what is at least as new is so whatever the ages
pub at_any_age : (a b : Instance) → is_at_least a b ≡ true → is_at_least (record a {
  age = 0;
}) (record b { age = 0 }) ≡ true
at_any_age a b e = without_flags (int_cmp a.sequence b.sequence) (nat_cmp a.checksum b.checksum)
    (is_max_age a.age) (is_max_age b.age) e

pub as_new_on : (a b c : InstanceIdentity) → is_as_new a b ≡ true → is_as_new b c ≡ true
    → is_as_new a c
    ≡ true
as_new_on a b c more less = at_least_on follow.total (young a) (young b) (young c) more less

-- two with one key that are each at least as new as the other are the same
pub same_instance : (a b : InstanceIdentity) → a.key ≡ b.key → is_as_new a b ≡ true → is_as_new b a
    ≡ true → a ≡ b
same_instance a b key there back =
    let equal : compare_ranks (young a) (young b) ≡ Equal =
    both_ways (compare_ranks (young a) (young b)) there
    (sym (ap (λ (o : Ordering). is_ge o) (follow.total.antisymm (young b) (young a))) ∙ back) in
    let parts = equal_parts (int_cmp a.sequence b.sequence) (nat_cmp a.checksum b.checksum)
    (bool_cmp false false) equal in
    let sequences = int_cmp-IsAntisymmetric a.sequence b.sequence parts.0 in
    let checksums = nat_cmp-IsAntisymmetric a.checksum b.checksum parts.1 in
    (λ i. record { key = key i; sequence = sequences i; checksum = checksums i })
  where
    both_ways : (o : Ordering) → is_ge o ≡ true → is_ge (ordering_reverse o) ≡ true → o ≡ Equal
    both_ways Less e f = absurd cc
    both_ways Equal e f = refl
    both_ways Greater e f = absurd cc
