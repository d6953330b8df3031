-- Two multiples of one number, compared at its least or greatest value.
use Rattle.std.proofs.Common.{◌≡◌, ℕ, ◌+◌, ◌-◌, ◌*◌, ◌≤◌, Option, Some, None, ap, subst, arith}
use Rattle.std.proofs.Math.Nat.{mul-le-mul_left}
use Rattle.verifier.specs.declared.line.Gap.{Gap}

-- the multiple on the left grows faster
pub gap_above : (a b x most needed : ℕ) → b ≤ a → x ≤ most → needed ≡ (a - b) * most
    → a * x + 0 ≤ b * x + needed
gap_above a b x most needed faster below is =
    let whole : b + (a - b) ≡ a = omega (arith, faster) in
    let further : (b + (a - b)) * x ≤ b * x + needed =
    rw is (omega (arith, mul-le-mul_left (a - b) below)) in
    let same : a * x ≤ b * x + needed = subst (λ n. n * x ≤ b * x + needed) whole further in
    omega (arith, same)

-- the multiple on the right grows faster
pub gap_below : (a b x least saved : ℕ) → a ≤ b → least ≤ x → saved ≡ (b - a) * least
    → a * x + saved ≤ b * x + 0
gap_below a b x least saved slower above is =
    let whole : a + (b - a) ≡ b = omega (arith, slower) in
    let further : a * x + saved ≤ (a + (b - a)) * x =
    rw is (omega (arith, mul-le-mul_left (b - a) above)) in
    let same : a * x + saved ≤ b * x = subst (λ n. a * x + saved ≤ n * x) whole further in
    omega (arith, same)

-- the gaps so far and one more
pub gap_sum : (l r saved needed a b more_saved more_needed : ℕ) → l + saved ≤ r + needed
    → a + more_saved ≤ b + more_needed
    → (l + a) + (saved + more_saved) ≤ (r + b) + (needed + more_needed)
gap_sum l r saved needed a b more_saved more_needed so_far here = omega (arith, so_far, here)

-- the bound of a value plus a multiple of a number that relates to another
pub line_followed : (value down constant dots k y x up less : ℕ) → value + down ≤ constant + dots
    → y + less ≡ x + up → (value + k * y) + (down + k * less) ≤ (constant + k * up) + (dots + k * x)
line_followed value down constant dots k y x up less bound same =
    let multiplied : k * (y + less) ≡ k * (x + up) = ap (λ n. k * n) same in
    omega (arith, multiplied, bound)

-- the bound of a value plus a multiple of a number that is at most `most`
pub line_most : (value down constant dots k y most : ℕ) → value + down ≤ constant + dots → y ≤ most
    → (value + k * y) + down ≤ (constant + k * most) + dots
line_most value down constant dots k y most bound below =
    omega (arith, bound, mul-le-mul_left k below)

-- what a missing gap saves
abbrev saved_of : Option Gap → ℕ
saved_of None = 0
saved_of (Some gap) = gap.saved

abbrev needed_of : Option Gap → ℕ
needed_of None = 0
needed_of (Some gap) = gap.needed

abbrev pub no_gap : Gap
no_gap = record { saved = 0; needed = 0 }

pub nothing_saved : (gap : Gap) → Some gap ≡ Some no_gap → gap.saved ≡ 0
nothing_saved gap same = ap saved_of same

pub nothing_needed : (gap : Gap) → Some gap ≡ Some no_gap → gap.needed ≡ 0
nothing_needed gap same = ap needed_of same
