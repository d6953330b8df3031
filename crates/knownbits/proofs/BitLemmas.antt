-- What is known of the bits of a result, bit by bit.
use Rattle.std.proofs.Common.{◌≡◌, ℕ, zero, suc, ◌+◌, ◌-◌, ◌*◌, ◌/◌, ◌%◌, ◌<◌, ◌≤◌, ◌^◌, min, max}
use Rattle.std.proofs.Common.{arith, refl, sym, ap, ◌∙◌}
use Rattle.std.specs.Prelude.{bit_and, bit_or, bit_xor}
use Rattle.std.specs.Int.{bit_at, bit_not, w64}
use Rattle.std.specs.Int.Bits.{and_self, or_add_and}
use Rattle.std.proofs.Common.{◌⊎◌, ⊎_elim, inl, inr, pow_mono}
use Rattle.std.proofs.lemmas.Bool.{cases_lt}
use Rattle.std.proofs.lemmas.Nat.{and_le_l, and_le_r, or_lt, xor_lt, pow_pos, shr-shr, div-add-mod'}
use Rattle.std.proofs.lemmas.Nat.{and_mask, and_comm, and_assoc, or_disjoint}
use Rattle.std.proofs.Math.Nat.{mod-eq_of_lt, mod-lt, div-le_self, add-mod, add-mul-mod_self_right}
use Rattle.std.proofs.lemmas.Nat.Bits.{bit_at_and, bit_at_or, bit_at_xor, bit_at_not, bit_at-lt}
use Rattle.std.proofs.lemmas.Nat.Bits.{bit_at-zero, bit_at_ones, bit_at_ones_above}
use Rattle.std.proofs.lemmas.Nat.Bits.{bit_at_mask_below, bit_at_cat_low, bit_at_cat_high}
use Rattle.std.proofs.lemmas.Nat.Bits.{bit_at_above, same_from_bits, same_from_bits_below}

and_below : (a b : ℕ) → a < 2 ^ 64 → bit_and a b < 2 ^ 64
and_below a b small = omega (arith, and_le_l a b)

xor_bit : (x y a b : ℕ) → x < 2 → y < 2 → a < 2 → b < 2
    → min ((x + y) % 2) (min a b) ≡ min ((min x a + min y b) % 2) (min a b)
xor_bit x y a b p q r s = omega arith

and_bit : (x y a b : ℕ) → x < 2 → y < 2 → a < 2 → b < 2
    → min (min x y) (max (max (min a b) (min a (1 - min x a))) (min b (1 - min y b)))
    ≡ min (min x a) (min y b)
and_bit zero zero a b p q r s = omega arith
and_bit zero (suc zero) a b p q r s = omega arith
and_bit zero (suc (suc y)) a b p q r s = absurd (omega arith)
and_bit (suc zero) zero a b p q r s = omega arith
and_bit (suc zero) (suc zero) a b p q r s = omega arith
and_bit (suc zero) (suc (suc y)) a b p q r s = absurd (omega arith)
and_bit (suc (suc x)) y a b p q r s = absurd (omega arith)

or_bit : (x y a b : ℕ) → x < 2 → y < 2 → a < 2 → b < 2
    → min (max x y) (max (max (min a b) (min a (min x a))) (min b (min y b)))
    ≡ max (min x a) (min y b)
or_bit zero y a b p q r s = omega arith
or_bit (suc zero) y a b p q r s = omega arith
or_bit (suc (suc x)) y a b p q r s = absurd (omega arith)

-- both bits are known
pub xor_known : (x y a b : ℕ) → x < 2 ^ 64 → y < 2 ^ 64
    → bit_and (bit_xor x y) (bit_and a b)
    ≡ bit_and (bit_xor (bit_and x a) (bit_and y b)) (bit_and a b)
xor_known x y a b small small' =
    same_from_bits_below 64 _ _ (and_below _ _ (xor_lt 64 x y small small'))
    (and_below _ _ (xor_lt 64 _ _ (and_below x a small) (and_below y b small')))
    (λ i below. simp (bit_at_and, bit_at_xor)
    (xor_bit (bit_at x i) (bit_at y i) (bit_at a i) (bit_at b i) (bit_at-lt x i) (bit_at-lt y i)
    (bit_at-lt a i) (bit_at-lt b i)))

-- both bits are known, or one is known to be 1
pub or_known : (x y a b : ℕ) → x < 2 ^ 64 → y < 2 ^ 64
    → bit_and (bit_or x y) (bit_or (bit_or (bit_and a b) (bit_and a (bit_and x a)))
    (bit_and b (bit_and y b))) ≡ bit_or (bit_and x a) (bit_and y b)
or_known x y a b small small' =
    same_from_bits_below 64 _ _ (and_below _ _ (or_lt 64 x y small small'))
    (or_lt 64 _ _ (and_below x a small) (and_below y b small'))
    (λ i below. simp (bit_at_and, bit_at_or)
    (or_bit (bit_at x i) (bit_at y i) (bit_at a i) (bit_at b i) (bit_at-lt x i) (bit_at-lt y i)
    (bit_at-lt a i) (bit_at-lt b i)))

-- both bits are known, or one is known to be 0
pub and_known : (x y a b : ℕ) → x < 2 ^ 64 → y < 2 ^ 64
    → bit_and (bit_and x y) (bit_or (bit_or (bit_and a b) (bit_and a (bit_not w64 (bit_and x a))))
    (bit_and b (bit_not w64 (bit_and y b)))) ≡ bit_and (bit_and x a) (bit_and y b)
and_known x y a b small small' =
    same_from_bits_below 64 _ _ (and_below _ _ (and_below x y small))
    (and_below _ _ (and_below x a small))
    (λ i below.
    let not_x = bit_at_not w64 (bit_and x a) i (and_below x a small) below in
    let not_y = bit_at_not w64 (bit_and y b) i (and_below y b small') below in
    simp (bit_at_and, bit_at_or) (rw (not_x, not_y)
    (simp bit_at_and (and_bit (bit_at x i) (bit_at y i) (bit_at a i) (bit_at b i)
    (bit_at-lt x i) (bit_at-lt y i) (bit_at-lt a i) (bit_at-lt b i)))))

pub and_small : (x y : ℕ) → x < 2 ^ 64 → y < 2 ^ 64 → bit_and x y < 2 ^ 64
and_small x y small small' = and_below x y small

pub or_small : (x y : ℕ) → x < 2 ^ 64 → y < 2 ^ 64 → bit_or x y < 2 ^ 64
or_small x y small small' = or_lt 64 x y small small'

pub xor_small : (x y : ℕ) → x < 2 ^ 64 → y < 2 ^ 64 → bit_xor x y < 2 ^ 64
xor_small x y small small' = xor_lt 64 x y small small'

cut_bit : (n m l h : ℕ) → n < 2 → m < 2 → l < 2 → h < 2 → ((l ≡ 1) × (h ≡ 0)) ⊎ (l ≡ 0)
    → min (min n l) (max m h) ≡ min (min n m) l
cut_bit n m l h p q r s (inl low) = omega arith
cut_bit n m l h p q r s (inr high) = omega arith

-- the low half, under a mask of more than the upper half
pub cut_known : (n m : ℕ) → n < 2 ^ 64
    → bit_and (n % 2 ^ 32) (bit_or m (2 ^ 64 - 2 ^ 32)) ≡ bit_and (bit_and n m) (2 ^ 32 - 1)
cut_known n m small =
    rw (← and_mask n 32)
    (same_from_bits_below 64 _ _ (and_below _ _ (and_below n _ small))
    (and_below _ _ (and_below n m small))
    (λ i below. simp (bit_at_and, bit_at_or)
    (cut_bit (bit_at n i) (bit_at m i) (bit_at (2 ^ 32 - 1) i) (bit_at (2 ^ 64 - 2 ^ 32) i)
    (bit_at-lt n i) (bit_at-lt m i) (bit_at-lt (2 ^ 32 - 1) i)
    (bit_at-lt (2 ^ 64 - 2 ^ 32) i)
    (⊎_elim (λ (low : i < 32). inl (bit_at_ones 32 i low, bit_at_mask_below 32 64 i low))
    (λ (high : 32 ≤ i). inr (bit_at_ones_above 32 i high)) (cases_lt i 32)))))

join_bit : (n a b : ℕ) → n < 2 → a < 2 → b < 2 → min n (max a b) ≡ max (min n a) (min n b)
join_bit n a b p q r = omega arith

-- what is known of one number from two sides
pub join_known : (n a b : ℕ) → n < 2 ^ 64
    → bit_and n (bit_or a b) ≡ bit_or (bit_and n a) (bit_and n b)
join_known n a b small =
    same_from_bits_below 64 _ _ (and_below _ _ small)
    (or_lt 64 _ _ (and_below n a small) (and_below n b small))
    (λ i below. simp (bit_at_and, bit_at_or)
    (join_bit (bit_at n i) (bit_at a i) (bit_at b i) (bit_at-lt n i) (bit_at-lt a i)
    (bit_at-lt b i)))

clash_bit : (n a b : ℕ) → n < 2 → a < 2 → b < 2 → min ((min n a + min n b) % 2) (min a b) ≡ 0
clash_bit n a b p q r = omega arith

-- two sides that know a bit of one number agree on it
pub join_clash : (n a b : ℕ) → n < 2 ^ 64
    → bit_and (bit_xor (bit_and n a) (bit_and n b)) (bit_and a b) ≡ 0
join_clash n a b small =
    same_from_bits_below 64 _ _ (and_below _ _
    (xor_lt 64 _ _ (and_below n a small) (and_below n b small))) (omega arith)
    (λ i below. simp (bit_at_and, bit_at_xor)
    (clash_bit (bit_at n i) (bit_at a i) (bit_at b i) (bit_at-lt n i) (bit_at-lt a i)
    (bit_at-lt b i) ∙ sym (bit_at-zero i)))

-- what is known under a mask is known under a part of it
pub within_known : (n s o v w : ℕ) → bit_and n s ≡ v → bit_and s o ≡ o → bit_and v o ≡ w
    → bit_and n o ≡ w
within_known n s o v w known part same =
    ap (λ m. bit_and n m) (sym part) ∙ sym (and_assoc o n s) ∙ ap (λ m. bit_and m o) known ∙ same

-- a mask under which every number is the same has no bit
pub nothing_known : (s m v : ℕ) → m < 2 ^ 64 → bit_and 0 m ≡ v → bit_and (2 ^ 64 - 1) m ≡ v
    → bit_and s m ≡ m
nothing_known s m v small zeros ones =
    let whole : bit_and (2 ^ 64 - 1) m ≡ m =
    and_comm (2 ^ 64 - 1) m ∙ and_mask m 64 ∙ mod-eq_of_lt small in
    omega (arith, and_le_l 0 m, and_le_r s m, zeros, ones, whole)

zero_bit : (n v a l : ℕ) → n < 2 → v < 2 → a < 2 → l < 2 → min n a ≡ v → min a (1 - v) ≡ 1 ⊎ (l ≡ 0)
    → min n l ≡ 0
zero_bit n v a l p q r s same (inl known) = omega arith
zero_bit n v a l p q r s same (inr none) = omega arith

-- if the low bits are known to be 0, their power of two divides
pub divides_known : (n a k : ℕ) → n < 2 ^ 64
    → ((i : ℕ) → i < k → bit_at (bit_and a (bit_not w64 (bit_and n a))) i ≡ 1) → k ≤ 64
    → n % 2 ^ k ≡ 0
divides_known n a k small known within =
    rw (← and_mask n k)
    (same_from_bits_below 64 _ _ (and_below _ _ small) (omega arith)
    (λ i below.
    let facts : min (bit_at a i) (1 - min (bit_at n i) (bit_at a i)) ≡ 1
    ⊎ (bit_at (2 ^ k - 1) i ≡ 0) =
    ⊎_elim (λ (low : i < k). inl (rw (
      bit_at_not w64 (bit_and n a) i (and_below n a small) below,
      bit_at_and n a i,
    ) at (rw (bit_at_and a (bit_not w64 (bit_and n a)) i) at (known i low))))
    (λ (high : k ≤ i). inr (bit_at_ones_above k i high)) (cases_lt i k) in
    simp bit_at_and (zero_bit (bit_at n i) (min (bit_at n i) (bit_at a i)) (bit_at a i)
    (bit_at (2 ^ k - 1) i) (bit_at-lt n i) (omega (arith, bit_at-lt a i)) (bit_at-lt a i)
    (bit_at-lt (2 ^ k - 1) i) refl facts ∙ sym (bit_at-zero i))))

-- ---- which bits are known

some_of : (a b c d : ℕ) → a < 2 → b < 2 → c < 2 → d < 2
    → ((a ≡ 1) × (b ≡ 1)) ⊎ (((a ≡ 1) × (c ≡ 1)) ⊎ ((b ≡ 1) × (d ≡ 1)))
    → max (max (min a b) (min a c)) (min b d) ≡ 1
some_of a b c d p q r s (inl both) = omega (arith, both.0, both.1)
some_of a b c d p q r s (inr (inl left)) = omega (arith, left.0, left.1)
some_of a b c d p q r s (inr (inr right)) = omega (arith, right.0, right.1)

pub or_knows : (a b v u i : ℕ) → ((bit_at a i ≡ 1) × (bit_at b i ≡ 1))
    ⊎ (((bit_at a i ≡ 1) × (bit_at v i ≡ 1)) ⊎ ((bit_at b i ≡ 1) × (bit_at u i ≡ 1)))
    → bit_at (bit_or (bit_or (bit_and a b) (bit_and a v)) (bit_and b u)) i ≡ 1
or_knows a b v u i known =
    simp (bit_at_and, bit_at_or) (some_of (bit_at a i) (bit_at b i) (bit_at v i) (bit_at u i)
    (bit_at-lt a i) (bit_at-lt b i) (bit_at-lt v i) (bit_at-lt u i) known)

not_bit : (v i : ℕ) → v < 2 ^ 64 → i < 64 → bit_at v i ≡ 0 → bit_at (bit_not w64 v) i ≡ 1
not_bit v i small below zero_there = bit_at_not w64 v i small below ∙ omega (arith, zero_there)

turned : (a b v u i : ℕ) → v < 2 ^ 64 → u < 2 ^ 64 → i < 64
    → ((bit_at a i ≡ 1) × (bit_at b i ≡ 1))
    ⊎ (((bit_at a i ≡ 1) × (bit_at v i ≡ 0)) ⊎ ((bit_at b i ≡ 1) × (bit_at u i ≡ 0)))
    → ((bit_at a i ≡ 1) × (bit_at b i ≡ 1))
    ⊎ (((bit_at a i ≡ 1) × (bit_at (bit_not w64 v) i ≡ 1))
    ⊎ ((bit_at b i ≡ 1) × (bit_at (bit_not w64 u) i ≡ 1)))
turned a b v u i small small' below (inl both) = inl both
turned a b v u i small small' below (inr (inl left)) =
    inr (inl (left.0, not_bit v i small below left.1))
turned a b v u i small small' below (inr (inr right)) =
    inr (inr (right.0, not_bit u i small' below right.1))

pub and_knows : (a b v u i : ℕ) → v < 2 ^ 64 → u < 2 ^ 64 → i < 64
    → ((bit_at a i ≡ 1) × (bit_at b i ≡ 1))
    ⊎ (((bit_at a i ≡ 1) × (bit_at v i ≡ 0)) ⊎ ((bit_at b i ≡ 1) × (bit_at u i ≡ 0)))
    → bit_at (bit_or (bit_or (bit_and a b) (bit_and a (bit_not w64 v)))
    (bit_and b (bit_not w64 u))) i ≡ 1
and_knows a b v u i small small' below known =
    or_knows a b (bit_not w64 v) (bit_not w64 u) i (turned a b v u i small small' below known)

pub both_known : (a b i : ℕ) → bit_at a i ≡ 1 → bit_at b i ≡ 1 → bit_at (bit_and a b) i ≡ 1
both_known a b i left right = bit_at_and a b i ∙ omega (arith, left, right)

pub left_known : (a b i : ℕ) → bit_at a i ≡ 1 → bit_at (bit_or a b) i ≡ 1
left_known a b i left = bit_at_or a b i ∙ omega (arith, left, bit_at-lt b i)

pub right_known : (a b i : ℕ) → bit_at b i ≡ 1 → bit_at (bit_or a b) i ≡ 1
right_known a b i right = bit_at_or a b i ∙ omega (arith, right, bit_at-lt a i)

pub known_of_left : (a b i : ℕ) → bit_at (bit_and a b) i ≡ 1 → bit_at a i ≡ 1
known_of_left a b i known = omega (arith, known, bit_at_and a b i, bit_at-lt a i)

pub known_of_right : (a b i : ℕ) → bit_at (bit_and a b) i ≡ 1 → bit_at b i ≡ 1
known_of_right a b i known = omega (arith, known, bit_at_and a b i, bit_at-lt b i)

-- all of 64 bits
pub all_ones : (m : ℕ) → m < 2 ^ 64 → ((i : ℕ) → i < 64 → bit_at m i ≡ 1) → m ≡ 18446744073709551615
all_ones m small known = same_from_bits_below 64 m 18446744073709551615 small (omega arith)
    (λ i below. known i below ∙ sym (bit_at_ones 64 i below))

-- a run of ones ends before a zero
pub run_within : (m t count : ℕ) → bit_at m t ≡ 0 → ((i : ℕ) → i < count → bit_at m i ≡ 1)
    → count ≤ t
run_within m t count end known =
    ⊎_elim (λ (inside : t < count). absurd (omega (arith, known t inside, end)))
    (λ (within : count ≤ t). within) (cases_lt t count)

-- one side knows a 0 and the other a 1
pub clash_seen : (a b v u i : ℕ) → bit_at a i ≡ 1 → bit_at v i ≡ 0 → bit_at b i ≡ 1 → bit_at u i ≡ 1
    → bit_and (bit_xor v u) (bit_and a b) ≡ 0 → ⊥
clash_seen a b v u i left low right high none =
    let there : bit_at (bit_and (bit_xor v u) (bit_and a b)) i ≡ 1 =
    simp (bit_at_and, bit_at_xor) (omega (arith, left, low, right, high)) in
    let gone : bit_at (bit_and (bit_xor v u) (bit_and a b)) i ≡ 0 =
    ap (λ n. bit_at n i) none ∙ bit_at-zero i in
    omega (arith, there, gone)

-- ---- bits that are moved

-- the low 64 bits
mod_bit : (n i : ℕ) → i < 64 → bit_at (n % 2 ^ 64) i ≡ bit_at n i
mod_bit n i below = ap (λ z. bit_at z i) (sym (and_mask n 64)) ∙ bit_at_and n (2 ^ 64 - 1) i
    ∙ omega (arith, bit_at_ones 64 i below, bit_at-lt n i)

shl_low : (n k i : ℕ) → i < 64 → i < k → bit_at (n * 2 ^ k % 2 ^ 64) i ≡ 0
shl_low n k i below low = let whole : n * 2 ^ k ≡ n * 2 ^ k + 0 = omega arith in
    mod_bit (n * 2 ^ k) i below ∙ ap (λ z. bit_at z i) whole ∙ bit_at_cat_low n k 0 i low
    ∙ bit_at-zero i

shl_high : (n k i : ℕ) → i < 64 → k ≤ i → bit_at (n * 2 ^ k % 2 ^ 64) i ≡ bit_at n (i - k)
shl_high n k i below high = let whole : n * 2 ^ k ≡ n * 2 ^ k + 0 = omega arith in
    mod_bit (n * 2 ^ k) i below ∙ ap (λ z. bit_at z i) whole
    ∙ bit_at_cat_high n k 0 i (pow_pos k) high

shr_bit : (n k i : ℕ) → bit_at (n / 2 ^ k) i ≡ bit_at n (k + i)
shr_bit n k i = ap (λ z. z % 2) (shr-shr n k i)

-- bits moved to the left, with known zeros below them
pub shl_known : (n m k : ℕ) → k < 64
    → bit_and (n * 2 ^ k % 2 ^ 64) (bit_or (m * 2 ^ k % 2 ^ 64) (2 ^ k - 1))
    ≡ bit_and n m * 2 ^ k % 2 ^ 64
shl_known n m k few =
    same_from_bits_below 64 _ _ (and_below _ _ (omega arith)) (omega arith)
    (λ i below. bit_at_and (n * 2 ^ k % 2 ^ 64) (bit_or (m * 2 ^ k % 2 ^ 64) (2 ^ k - 1)) i ∙ ⊎_elim
    (λ (low : i < k). omega (arith, shl_low n k i below low, shl_low (bit_and n m) k i below low))
    (λ (high : k ≤ i). omega (
      arith,
      shl_high n k i below high,
      shl_high (bit_and n m) k i below high,
      bit_at_and n m (i - k),
      bit_at_or (m * 2 ^ k % 2 ^ 64) (2 ^ k - 1) i,
      shl_high m k i below high,
      bit_at_ones_above k i high,
    ))
    (cases_lt i k))

pub shl_fills : (m k i : ℕ) → i < k → bit_at (bit_or (m * 2 ^ k % 2 ^ 64) (2 ^ k - 1)) i ≡ 1
shl_fills m k i low = right_known (m * 2 ^ k % 2 ^ 64) (2 ^ k - 1) i (bit_at_ones k i low)

pub shl_moves : (m k i : ℕ) → i + k < 64 → bit_at m i ≡ 1
    → bit_at (bit_or (m * 2 ^ k % 2 ^ 64) (2 ^ k - 1)) (i + k) ≡ 1
shl_moves m k i below known =
    left_known (m * 2 ^ k % 2 ^ 64) (2 ^ k - 1) (i + k)
    (shl_high m k (i + k) below (omega arith) ∙ ap (bit_at m) (omega arith) ∙ known)

-- bits moved to the right, with known zeros above them
shr_zero : (n k i : ℕ) → n < 2 ^ 64 → 64 ≤ k + i → bit_at (n / 2 ^ k) i ≡ 0
shr_zero n k i small above = shr_bit n k i ∙ bit_at_above n 64 (k + i) small above

fill_bit : (k i : ℕ) → i < 64 → bit_at (18446744073709551615 - 18446744073709551615 / 2 ^ k) i
    ≡ 1 - bit_at 18446744073709551615 (k + i)
fill_bit k i below = bit_at_not w64 (18446744073709551615 / 2 ^ k) i
    (omega (arith, div-le_self 18446744073709551615 (2 ^ k))) below
    ∙ ap (λ z. 1 - z) (shr_bit 18446744073709551615 k i)

pub shr_known : (n m k : ℕ) → n < 2 ^ 64 → m < 2 ^ 64
    → bit_and (n / 2 ^ k) (bit_or (m / 2 ^ k) (18446744073709551615 - 18446744073709551615 / 2 ^ k))
    ≡ bit_and n m / 2 ^ k
shr_known n m k small small' =
    same_from_bits_below 64 _ _ (and_below _ _ (omega (arith, div-le_self n (2 ^ k))))
    (omega (arith, and_le_l n m, div-le_self (bit_and n m) (2 ^ k)))
    (λ i below. bit_at_and (n / 2 ^ k)
    (bit_or (m / 2 ^ k) (18446744073709551615 - 18446744073709551615 / 2 ^ k)) i ∙ ⊎_elim
    (λ (low : k + i < 64). omega (
      arith,
      shr_bit n k i,
      shr_bit m k i,
      shr_bit (bit_and n m) k i,
      bit_at_and n m (k + i),
      bit_at_or (m / 2 ^ k)
          (18446744073709551615 - 18446744073709551615 / 2 ^ k) i,
      fill_bit k i below,
      bit_at_ones 64 (k + i) low,
    ))
    (λ (high : 64 ≤ k + i). omega (
      arith,
      shr_zero n k i small high,
      shr_zero (bit_and n m) k i (omega (arith, and_le_l n m)) high,
    ))
    (cases_lt (k + i) 64))

pub shr_fills : (m k i : ℕ) → i < 64 → 64 ≤ k + i
    → bit_at (bit_or (m / 2 ^ k) (18446744073709551615 - 18446744073709551615 / 2 ^ k)) i ≡ 1
shr_fills m k i below above = right_known (m / 2 ^ k) _ i
    (fill_bit k i below ∙ omega (
      arith,
      bit_at_above 18446744073709551615 64 (k + i) (omega arith) above,
    ))

pub shr_moves : (m k i : ℕ) → bit_at m (k + i) ≡ 1
    → bit_at (bit_or (m / 2 ^ k) (18446744073709551615 - 18446744073709551615 / 2 ^ k)) i ≡ 1
shr_moves m k i known = left_known (m / 2 ^ k) _ i (shr_bit m k i ∙ known)

-- filled from above the word, or moved there from the known upper bits
pub shr_filled : (m k i : ℕ) → i < 64 → (k + i < 64 → bit_at m (k + i) ≡ 1)
    → bit_at (bit_or (m / 2 ^ k) (18446744073709551615 - 18446744073709551615 / 2 ^ k)) i ≡ 1
shr_filled m k i below known =
    ⊎_elim (λ (inside : k + i < 64). shr_moves m k i (known inside))
    (λ (above : 64 ≤ k + i). shr_fills m k i below above) (cases_lt (k + i) 64)

pub bit_place : (m k i : ℕ) → bit_at m (i + k) ≡ 1 → bit_at m (k + i) ≡ 1
bit_place m k i known = let same : k + i ≡ i + k = omega arith in ap (bit_at m) same ∙ known

-- ---- sums by their low bits

pow_most : (t : ℕ) → t ≤ 64 → 2 ^ t ≤ 2 ^ 64
pow_most t few = pow_mono few

low_and : (n t : ℕ) → t ≤ 64 → bit_and (n % 2 ^ 64) (2 ^ t - 1) ≡ n % 2 ^ t
low_and n t few =
    same_from_bits_below 64 _ _ (and_below _ _ (omega arith))
    (omega (arith, pow_most t few, mod-lt n (pow_pos t)))
    (λ i below. bit_at_and (n % 2 ^ 64) (2 ^ t - 1) i
    ∙ ap (λ z. min z (bit_at (2 ^ t - 1) i)) (mod_bit n i below)
    ∙ sym (bit_at_and n (2 ^ t - 1) i) ∙ ap (λ z. bit_at z i) (and_mask n t))

rest_known : (x m t : ℕ) → ((i : ℕ) → i < t → bit_at m i ≡ 1) → bit_and x m % 2 ^ t ≡ x % 2 ^ t
rest_known x m t known =
    sym (and_mask (bit_and x m) t) ∙ same_from_bits _ _ (λ i. simp bit_at_and (⊎_elim
    (λ (low : i < t). omega (arith, known i low, bit_at-lt x i))
    (λ (high : t ≤ i). omega (arith, bit_at_ones_above t i high))
    (cases_lt i t))) ∙ and_mask x t

same_sum : (p x y x' y' : ℕ) → x % p ≡ x' % p → y % p ≡ y' % p → (x + y) % p ≡ (x' + y') % p
same_sum p x y x' y' left right = add-mod x y p ∙ ap (λ z. (z + y % p) % p) left
    ∙ ap (λ z. (x' % p + z) % p) right ∙ sym (add-mod x' y' p)

same_rest : (p m y y' : ℕ) → y ≤ m → y' ≤ m → y % p ≡ y' % p → (m - y) % p ≡ (m - y') % p
same_rest p m y y' most most' same =
    let one : m - y + y / p * p ≡ m - y' + y' / p * p =
    omega (arith, div-add-mod' y p, div-add-mod' y' p, same, most, most') in
    sym (add-mul-mod_self_right (m - y) (y / p) p) ∙ ap (λ z. z % p) one
    ∙ add-mul-mod_self_right (m - y') (y' / p) p

pub sum_known : (x y a b t : ℕ) → t ≤ 64 → ((i : ℕ) → i < t → bit_at a i ≡ 1)
    → ((i : ℕ) → i < t → bit_at b i ≡ 1)
    → bit_and ((x + y) % 2 ^ 64) (2 ^ t - 1)
    ≡ bit_and ((bit_and x a + bit_and y b) % 2 ^ 64) (2 ^ t - 1)
sum_known x y a b t few left right =
    low_and (x + y) t few ∙ same_sum (2 ^ t) x y (bit_and x a) (bit_and y b)
    (sym (rest_known x a t left)) (sym (rest_known y b t right))
    ∙ sym (low_and (bit_and x a + bit_and y b) t few)

pub difference_known : (x y a b t : ℕ) → y < 2 ^ 64 → t ≤ 64 → ((i : ℕ) → i < t → bit_at a i ≡ 1)
    → ((i : ℕ) → i < t → bit_at b i ≡ 1)
    → bit_and ((x + (2 ^ 64 - y)) % 2 ^ 64) (2 ^ t - 1)
    ≡ bit_and ((bit_and x a + (2 ^ 64 - bit_and y b)) % 2 ^ 64) (2 ^ t - 1)
difference_known x y a b t small few left right =
    low_and (x + (2 ^ 64 - y)) t few
    ∙ same_sum (2 ^ t) x (2 ^ 64 - y) (bit_and x a) (2 ^ 64 - bit_and y b)
    (sym (rest_known x a t left)) (same_rest (2 ^ t) (2 ^ 64) y (bit_and y b) (omega arith)
    (omega (arith, and_le_l y b)) (sym (rest_known y b t right)))
    ∙ sym (low_and (bit_and x a + (2 ^ 64 - bit_and y b)) t few)

pub run_knows : (t count i : ℕ) → count ≤ t → i < count → bit_at (2 ^ t - 1) i ≡ 1
run_knows t count i within below = bit_at_ones t i (omega arith)

pub word_small : (n : ℕ) → n % 2 ^ 64 < 2 ^ 64
word_small n = omega arith

-- what is known of the low half of one number holds of any other with the same low half
pub shared_bits : (a b m : ℕ) → a % 2 ^ 32 ≡ b % 2 ^ 32
    → bit_and a (bit_and m 4294967295) ≡ bit_and (bit_and b m) 4294967295
shared_bits a b m same =
    let halves : bit_and a 4294967295 ≡ bit_and b 4294967295 =
    and_mask a 32 ∙ same ∙ sym (and_mask b 32) in
    same_from_bits _ _ (λ i. simp bit_at_and (
    let here : min (bit_at a i) (bit_at 4294967295 i) ≡ min (bit_at b i) (bit_at 4294967295 i) =
    sym (bit_at_and a 4294967295 i) ∙ ap (λ n. bit_at n i) halves ∙ bit_at_and b 4294967295 i in
    omega (arith, here)))

pub zero_seen : (m v i : ℕ) → v < 2 ^ 64 → i < 64 → bit_at m i ≡ 1 → bit_at v i ≡ 0
    → bit_at (bit_and m (bit_not w64 v)) i ≡ 1
zero_seen m v i small below known low =
    both_known m (bit_not w64 v) i known (not_bit v i small below low)

-- ---- the numbers between the least and the greatest

apart_bit : (v m : ℕ) → v < 2 → m < 2 → min v m ≡ v → min v (1 - m) ≡ 0
apart_bit v m p q r = omega arith

-- bits under a mask are not outside it
apart : (v m : ℕ) → m < 2 ^ 64 → bit_and v m ≡ v → bit_and v (bit_not w64 m) ≡ 0
apart v m small within =
    same_from_bits_below 64 _ _ (omega (arith, and_le_l v (bit_not w64 m), and_le_r v m, within))
    (omega arith)
    (λ i below.
    let here : min (bit_at v i) (bit_at m i) ≡ bit_at v i =
    sym (bit_at_and v m i) ∙ ap (λ n. bit_at n i) within in
    bit_at_and v (bit_not w64 m) i ∙ ap (λ z. min (bit_at v i) z) (bit_at_not w64 m i small below)
    ∙ apart_bit (bit_at v i) (bit_at m i) (bit_at-lt v i) (bit_at-lt m i) here
    ∙ sym (bit_at-zero i))

pub greatest : (v m : ℕ) → m < 2 ^ 64 → bit_and v m ≡ v
    → bit_or v (bit_not w64 m) ≡ v + (18446744073709551615 - m)
greatest v m small within = or_disjoint v (bit_not w64 m) (apart v m small within)

-- a number is its bits under a mask and those outside it
two_parts : (n m : ℕ) → n < 2 ^ 64 → m < 2 ^ 64
    → bit_or (bit_and n m) (bit_and n (bit_not w64 m)) ≡ n
two_parts n m small small' =
    same_from_bits_below 64 _ _ (or_lt 64 _ _ (and_below n m small) (and_below n _ small)) small
    (λ i below. bit_at_or (bit_and n m) (bit_and n (bit_not w64 m)) i
    ∙ omega (
      arith,
      bit_at_and n m i,
      bit_at_and n (bit_not w64 m) i,
      bit_at_not w64 m i small' below,
      bit_at-lt n i,
      bit_at-lt m i,
    ))

pub at_most : (n m v : ℕ) → n < 2 ^ 64 → m < 2 ^ 64 → bit_and n m ≡ v → n ≤ bit_or v (bit_not w64 m)
at_most n m v small small' known =
    let under : bit_and v m ≡ v = sym (ap (λ z. bit_and z m) known) ∙ and_assoc m n m
    ∙ ap (bit_and n) (and_self m) ∙ known in
    omega (
      arith,
      two_parts n m small small',
      or_add_and (bit_and n m) (bit_and n (bit_not w64 m)),
      and_le_r n (bit_not w64 m),
      known,
      greatest v m small' under,
    )

-- ---- what one side knows, the other knows

-- each bit of the one mask is in the other
pub mask_within : (s o : ℕ) → o < 2 ^ 64 → ((i : ℕ) → i < 64 → bit_at o i ≡ 1 → bit_at s i ≡ 1)
    → bit_and s o ≡ o
mask_within s o small knows =
    same_from_bits_below 64 _ _ (omega (arith, and_le_r s o)) small
    (λ i below. bit_at_and s o i ∙ ⊎_elim
    (λ (none : bit_at o i < 1). omega (arith, none))
    (λ (one : 1 ≤ bit_at o i). let there : bit_at o i ≡ 1 = omega (arith, one, bit_at-lt o i) in
    omega (arith, there, knows i below there))
    (cases_lt (bit_at o i) 1))

-- if each bit under the mask is the same
pub value_within : (v m w : ℕ) → m < 2 ^ 64 → bit_and w m ≡ w
    → ((i : ℕ) → i < 64 → bit_at m i ≡ 1 → bit_at v i ≡ bit_at w i) → bit_and v m ≡ w
value_within v m w small within knows =
    same_from_bits_below 64 _ _ (omega (arith, and_le_r v m)) (omega (arith, and_le_r w m, within))
    (λ i below.
    let here : min (bit_at w i) (bit_at m i) ≡ bit_at w i =
    sym (bit_at_and w m i) ∙ ap (λ n. bit_at n i) within in
    bit_at_and v m i ∙ ⊎_elim
    (λ (none : bit_at m i < 1). omega (arith, none, here))
    (λ (one : 1 ≤ bit_at m i). let there : bit_at m i ≡ 1 = omega (arith, one, bit_at-lt m i) in
    omega (arith, there, here, bit_at-lt w i, knows i below there))
    (cases_lt (bit_at m i) 1))
