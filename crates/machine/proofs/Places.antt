-- Searching the numbers below 64 one by one.
use Rattle.std.proofs.Common.{◌≡◌, ℕ, suc, ◌+◌, ◌-◌, ◌<◌, ◌≤◌, Bool, true, false, Option, Some}
use Rattle.std.proofs.Common.{None, refl, arith}
use Rattle.std.specs.List.{find, range_with_len}

-- from a number on
abbrev pub from : (ℕ → Bool) → ℕ → Option ℕ
from p k = find p (range_with_len k (64 - k))

pub here : (p : ℕ → Bool) (k : ℕ) → k < 64 → p k ≡ true → from p k ≡ Some k
here p k within is = let n : 64 - k ≡ suc (63 - k) = omega arith in rw n (rw is refl)

pub further : (p : ℕ → Bool) (k : ℕ) → k < 64 → p k ≡ false → from p k ≡ from p (k + 1)
further p k within is =
    let n : 64 - k ≡ suc (63 - k) = omega arith in
    let m : 64 - (k + 1) ≡ 63 - k = omega arith in rw (n, m) (rw is refl)

pub past : (p : ℕ → Bool) (k : ℕ) → 64 ≤ k → from p k ≡ None
past p k over = let n : 64 - k ≡ 0 = omega arith in rw n refl
