-- Sums of multiples: one coefficient raised, and one more multiple.
use Rattle.std.proofs.Common.{◌≡◌, ℕ, zero, suc, ◌+◌, ◌*◌, ◌<◌, ◌≤◌, List, [], ◌∷◌, length, get_or}
use Rattle.std.proofs.Common.{refl, subst, add-one, arith, ⊎_elim}
use Rattle.std.proofs.lemmas.List.{get_or-set_same, get_or-set_other}
use Rattle.std.proofs.lemmas.Bool.{cases_lt}
use Rattle.std.specs.Prelude.{slice_set}
use Rattle.verifier.specs.Dots.{dot}

-- a coefficient past those that count
pub dot_beyond : (n : ℕ) (ks : List ℕ) (x : ℕ → ℕ) (q k : ℕ) → n ≤ q
    → dot n (slice_set ks q k) x ≡ dot n ks x
unfolding dot
dot_beyond zero ks x q k past = refl
dot_beyond (suc n) ks x q k past =
    rw (
      get_or-set_other ks q n k 0 (λ (same : n ≡ q). omega (arith, past, same)),
      dot_beyond n ks x q k (omega (arith, past)),
    ) refl

dot_last : (n : ℕ) (ks : List ℕ) (x : ℕ → ℕ) (k : ℕ) → n < length ks
    → dot (suc n) (slice_set ks n (get_or ks n 0 + k)) x ≡ dot (suc n) ks x + k * x n
unfolding dot
dot_last n ks x k within =
    rw (
      get_or-set_same ks n (get_or ks n 0 + k) 0 within,
      dot_beyond n ks x n (get_or ks n 0 + k) (omega arith),
    ) (omega arith)

-- one coefficient raised by k
pub dot_set : (n : ℕ) (ks : List ℕ) (x : ℕ → ℕ) (q k : ℕ) → q < n → q < length ks
    → dot n (slice_set ks q (get_or ks q 0 + k)) x ≡ dot n ks x + k * x q
unfolding dot
dot_set zero ks x q k inside within = absurd (omega (arith, inside))
dot_set (suc n) ks x q k inside within =
    ⊎_elim
    (λ (low : q < n).
    rw (
      get_or-set_other ks q n (get_or ks q 0 + k) 0 (λ (same : n ≡ q). omega (arith, low, same)),
      dot_set n ks x q k low within,
    ) (omega arith))
    (λ (high : n ≤ q).
    let same : n ≡ q = omega (arith, inside, high) in
    subst (λ i. dot (suc n) (slice_set ks i (get_or ks i 0 + k)) x ≡ dot (suc n) ks x + k * x i)
    same (dot_last n ks x k (omega (arith, within, same))))
    (cases_lt q n)

-- one more multiple
pub dot_next : (n : ℕ) (ks : List ℕ) (x : ℕ → ℕ)
    → dot (n + 1) ks x ≡ dot n ks x + get_or ks n 0 * x n
unfolding dot
dot_next n ks x = rw (add-one n) refl

-- no coefficients
pub dot_none : (x : ℕ → ℕ) → dot 10 (0 ∷ 0 ∷ 0 ∷ 0 ∷ 0 ∷ 0 ∷ 0 ∷ 0 ∷ 0 ∷ 0 ∷ []) x ≡ 0
unfolding dot
dot_none x = omega arith

pub dot_empty : (ks : List ℕ) (x : ℕ → ℕ) → dot 0 ks x ≡ 0
unfolding dot
dot_empty ks x = refl
