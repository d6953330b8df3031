-- The order of instances, and the comparison of section 13.1 that refines it.
use Rattle.std.proofs.Common.{◌≡◌, ℕ, ◌+◌, ◌-◌, Bool, true, false, cond, not, ◌&&◌, refl, ap, ◌∙◌}
use Rattle.std.specs.Prelude.{nat_lt}
use Rattle.std.specs.declared.cmp.Ordering.{Ordering}
use Rattle.std.specs.declared.cmp.Ordering.TheVariants.{Less, Equal, Greater}
use Rattle.std.specs.Ordering.{bool_cmp, int_cmp, is_eq, is_ge, is_gt, nat_cmp, ordering_reverse}
use Rattle.std.specs.Ordering.{ordering_then}
use Rattle.std.specs.FinMap.{int_cmp-IsAntisymmetric, nat_cmp-IsAntisymmetric}
use Rattle.std.specs.Cmp.{IsTotalOrder, bool_cmp_total, int_cmp_total, nat_cmp_total, on_total}
use Rattle.std.specs.Cmp.{then_total, tied_itself, upto}
use Rattle.lsdb.specs.declared.order.Instance.{Instance}
use Rattle.lsdb.specs.Order.{is_max_age, is_newer, is_same}
use Rattle.agreement_laws.specs.Ranks.{RanksFollowTheComparison, compare_ranks, is_at_least}

-- by whether each is at MaxAge, whether the difference matters, and how the ages compare
newer_by : (r s : Ordering) (p q far : Bool) (t : Ordering)
    → is_gt (ordering_then r (ordering_then s
    (cond (p && not q) Greater (cond (q && not p) Less (cond far t Equal))))) ≡ true
    → is_ge (ordering_then r (ordering_then s (bool_cmp p q))) ≡ true
newer_by Less s p q far t e = absurd cc
newer_by Greater s p q far t e = refl
newer_by Equal Less p q far t e = absurd cc
newer_by Equal Greater p q far t e = refl
newer_by Equal Equal true true far t e = refl
newer_by Equal Equal true false far t e = refl
newer_by Equal Equal false true far t e = absurd cc
newer_by Equal Equal false false far t e = refl

not_newer_by : (r s : Ordering) (p q far : Bool) (t : Ordering)
    → is_gt (ordering_then r (ordering_then s
    (cond (p && not q) Greater (cond (q && not p) Less (cond far t Equal))))) ≡ false
    → is_ge (ordering_then (ordering_reverse r)
    (ordering_then (ordering_reverse s) (bool_cmp q p))) ≡ true
not_newer_by Less s p q far t e = refl
not_newer_by Greater s p q far t e = absurd cc
not_newer_by Equal Less p q far t e = refl
not_newer_by Equal Greater p q far t e = absurd cc
not_newer_by Equal Equal true true far t e = refl
not_newer_by Equal Equal true false far t e = absurd cc
not_newer_by Equal Equal false true far t e = refl
not_newer_by Equal Equal false false far t e = refl

same_by : (r s : Ordering) (p q far : Bool) (t : Ordering)
    → is_eq (ordering_then r (ordering_then s
    (cond (p && not q) Greater (cond (q && not p) Less (cond far t Equal))))) ≡ true
    → ordering_then r (ordering_then s (bool_cmp p q)) ≡ Equal
same_by Less s p q far t e = absurd cc
same_by Greater s p q far t e = absurd cc
same_by Equal Less p q far t e = absurd cc
same_by Equal Greater p q far t e = absurd cc
same_by Equal Equal true true far t e = refl
same_by Equal Equal true false far t e = absurd cc
same_by Equal Equal false true far t e = absurd cc
same_by Equal Equal false false far t e = refl

at_least_by : (r s : Ordering) (p q far : Bool) (t : Ordering)
    → is_eq (ordering_then r (ordering_then s
    (cond (p && not q) Greater (cond (q && not p) Less (cond far t Equal))))) ≡ true
    → is_ge (ordering_then r (ordering_then s (bool_cmp p q))) ≡ true
at_least_by r s p q far t e = ap (λ (o : Ordering). is_ge o) (same_by r s p q far t e)

abbrev far : ℕ → ℕ → Bool
far a b = nat_lt 900 ((a - b) + (b - a))

pub newer : (a b : Instance) → is_newer a b ≡ true → is_at_least a b ≡ true
newer a b e = newer_by (int_cmp a.sequence b.sequence) (nat_cmp a.checksum b.checksum)
    (is_max_age a.age) (is_max_age b.age) (far a.age b.age) (nat_cmp b.age a.age) e

pub not_newer : (a b : Instance) → is_newer a b ≡ false → is_at_least b a ≡ true
not_newer a b e =
    (λ i. is_ge (ordering_then (int_cmp_total.antisymm b.sequence a.sequence i)
    (ordering_then (nat_cmp_total.antisymm b.checksum a.checksum i)
    (bool_cmp (is_max_age b.age) (is_max_age a.age)))))
    ∙ not_newer_by (int_cmp a.sequence b.sequence) (nat_cmp a.checksum b.checksum)
    (is_max_age a.age) (is_max_age b.age) (far a.age b.age) (nat_cmp b.age a.age) e

same : (a b : Instance) → is_same a b ≡ true → compare_ranks a b ≡ Equal
same a b e = same_by (int_cmp a.sequence b.sequence) (nat_cmp a.checksum b.checksum)
    (is_max_age a.age) (is_max_age b.age) (far a.age b.age) (nat_cmp b.age a.age) e

pub same_at_least : (a b : Instance) → is_same a b ≡ true → is_at_least a b ≡ true
same_at_least a b e = at_least_by (int_cmp a.sequence b.sequence) (nat_cmp a.checksum b.checksum)
    (is_max_age a.age) (is_max_age b.age) (far a.age b.age) (nat_cmp b.age a.age) e

pub equal_parts : (r s t : Ordering) → ordering_then r (ordering_then s t) ≡ Equal → (r ≡ Equal)
    × (s ≡ Equal) × (t ≡ Equal)
equal_parts Less s t e = absurd cc
equal_parts Equal Less t e = absurd cc
equal_parts Equal Equal t e = (refl, refl, e)
equal_parts Equal Greater t e = absurd cc
equal_parts Greater s t e = absurd cc

same_flag : (p q : Bool) → bool_cmp p q ≡ Equal → p ≡ q
same_flag true true e = refl
same_flag true false e = absurd cc
same_flag false true e = absurd cc
same_flag false false e = refl

-- what is the same as something at least as new is at least as new
pub same_as_new : (a b i : Instance) → is_same a b ≡ true → is_at_least b i ≡ true → is_at_least a i
    ≡ true
same_as_new a b i e new =
    let parts = equal_parts (int_cmp a.sequence b.sequence) (nat_cmp a.checksum b.checksum)
    (bool_cmp (is_max_age a.age) (is_max_age b.age)) (same a b e) in
    let sequences : a.sequence ≡ b.sequence =
    int_cmp-IsAntisymmetric a.sequence b.sequence parts.0 in
    let checksums : a.checksum ≡ b.checksum =
    nat_cmp-IsAntisymmetric a.checksum b.checksum parts.1 in
    (λ j. is_ge (ordering_then (int_cmp (sequences j) i.sequence)
    (ordering_then (nat_cmp (checksums j) i.checksum)
    (bool_cmp (same_flag (is_max_age a.age) (is_max_age b.age) parts.2 j) (is_max_age i.age)))))
    ∙ new

-- each is at least as new as itself
pub itself_at_least : (a : Instance) → is_at_least a a ≡ true
itself_at_least a =
    (λ i. is_ge (ordering_then (tied_itself int_cmp_total a.sequence i)
    (ordering_then (tied_itself nat_cmp_total a.checksum i)
    (bool_cmp (is_max_age a.age) (is_max_age a.age)))))
    ∙ by_flag (is_max_age a.age)
  where
    by_flag : (p : Bool) → is_ge (bool_cmp p p) ≡ true
    by_flag true = refl
    by_flag false = refl

-- and as itself below MaxAge
pub older_at_least : (a : Instance) → is_at_least a (record a { age = 0 }) ≡ true
older_at_least a =
    (λ i. is_ge (ordering_then (tied_itself int_cmp_total a.sequence i)
    (ordering_then (tied_itself nat_cmp_total a.checksum i)
    (bool_cmp (is_max_age a.age) false))))
    ∙ by_flag (is_max_age a.age)
  where
    by_flag : (p : Bool) → is_ge (bool_cmp p false) ≡ true
    by_flag true = refl
    by_flag false = refl

-- ---- the order

total : IsTotalOrder compare_ranks
total =
    then_total (on_total (λ (i : Instance). i.sequence) int_cmp_total)
    (then_total (on_total (λ (i : Instance). i.checksum) nat_cmp_total)
    (on_total (λ (i : Instance). is_max_age i.age) bool_cmp_total))

module _ (order : IsTotalOrder compare_ranks) where
  not_greater : (a b : Instance) → is_at_least a b ≡ true → is_gt (compare_ranks b a) ≡ false
  not_greater a b e = ap (λ (o : Ordering). is_gt o) (order.antisymm b a)
      ∙ by_order (compare_ranks a b) e
    where
      by_order : (o : Ordering) → is_ge o ≡ true → is_gt (ordering_reverse o) ≡ false
      by_order Less is = absurd cc
      by_order Equal is = refl
      by_order Greater is = refl

  at_least_back : (a b : Instance) → is_gt (compare_ranks b a) ≡ false → is_at_least a b ≡ true
  at_least_back a b e = ap (λ (o : Ordering). is_ge o) (order.antisymm a b)
      ∙ by_order (compare_ranks b a) e
    where
      by_order : (o : Ordering) → is_gt o ≡ false → is_ge (ordering_reverse o) ≡ true
      by_order Less is = refl
      by_order Equal is = refl
      by_order Greater is = absurd cc

  -- transitivity
  pub at_least_on : (a b c : Instance) → is_at_least a b ≡ true → is_at_least b c ≡ true
      → is_at_least a c ≡ true
  at_least_on a b c more less = at_least_back a c
      (upto order c b a (not_greater b c less) (not_greater a b more))

-- of two that are the same, each is at least as new as the other
pub same_back : (a b : Instance) → is_same a b ≡ true → is_at_least b a ≡ true
same_back a b e = at_least_back total b a (ap (λ (o : Ordering). is_gt o) (same a b e))

pub follow : RanksFollowTheComparison
follow = record { total = total; newer = newer; not_newer = not_newer; same = same }
