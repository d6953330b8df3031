-- Truth values and the bytes whose bits they are.
use Rattle.std.proofs.Common.{◌≡◌, ℕ, zero, suc, ◌+◌, ◌*◌, ◌/◌, ◌%◌, ◌≤◌, ◌<◌, Bool, true, false}
use Rattle.std.proofs.Common.{List, [], ◌∷◌, ◌++◌, length, take, drop, set, get_or, refl, sym, ap}
use Rattle.std.proofs.Common.{◌∙◌, arith, length-take}
use Rattle.std.specs.Prelude.{nat_eq}
use Rattle.std.specs.Int.{bit_at}
use Rattle.std.proofs.lemmas.List.{get_or-drop, take-append-drop, take-take, drop-take}
use Rattle.std.proofs.lemmas.List.Edits.{fill_by_more}
use Rattle.object.specs.Packing.{bit, packed_bits}

pub packed-append : (n : ℕ) (xs ys : List Bool) → length xs ≡ 8 * n
    → packed_bits (xs ++ ys) ≡ packed_bits xs ++ packed_bits ys
packed-append zero [] ys l = refl
packed-append zero (x ∷ xs) ys l = absurd (omega arith)
packed-append (suc n) (a ∷ b ∷ c ∷ d ∷ e ∷ f ∷ g ∷ h ∷ xs) ys l =
    ap (λ t. (bit a + 2 * bit b + 4 * bit c + 8 * bit d + 16 * bit e + 32 * bit f + 64 * bit g + 128
    * bit h) ∷ t) (packed-append n xs ys (omega arith))
packed-append (suc n) other ys l = absurd (omega arith)

pub length-packed : (n : ℕ) (xs : List Bool) → length xs ≡ 8 * n → length (packed_bits xs) ≡ n
length-packed zero [] l = refl
length-packed zero (x ∷ xs) l = absurd (omega arith)
length-packed (suc n) (a ∷ b ∷ c ∷ d ∷ e ∷ f ∷ g ∷ h ∷ xs) l =
    ap suc (length-packed n xs (omega arith))
length-packed (suc n) other l = absurd (omega arith)

pub eight_packed : (xs : List Bool) → length xs ≡ 8
    → (bit (get_or xs 0 false) + 2 * bit (get_or xs 1 false) + 4 * bit (get_or xs 2 false) + 8 * bit
    (get_or xs 3 false) + 16 * bit (get_or xs 4 false) + 32 * bit (get_or xs 5 false) + 64 * bit
    (get_or xs 6 false) + 128 * bit (get_or xs 7 false)) ∷ [] ≡ packed_bits xs
eight_packed (a ∷ b ∷ c ∷ d ∷ e ∷ f ∷ g ∷ h ∷ []) l = refl
eight_packed other l = absurd (omega arith)

-- eight more
pub packed-more : (i : ℕ) (xs : List Bool) → 8 * i + 8 ≤ length xs
    → packed_bits (take (8 * (i + 1)) xs) ≡ packed_bits (take (8 * i) xs)
    ++ packed_bits (take 8 (drop (8 * i) xs))
packed-more i xs le =
    let more : 8 * (i + 1) ≡ 8 * i + 8 = omega arith in
    let cut : take (8 * i + 8) xs ≡ take (8 * i) xs ++ take 8 (drop (8 * i) xs) =
    sym (take-append-drop (8 * i) (take (8 * i + 8) xs))
    ∙ ap (λ t. t ++ drop (8 * i) (take (8 * i + 8) xs))
    (take-take (8 * i) (8 * i + 8) xs (omega arith))
    ∙ ap (λ t. take (8 * i) xs ++ t) (drop-take (8 * i) 8 xs) in
    ap (λ n. packed_bits (take n xs)) more ∙ ap packed_bits cut
    ∙ packed-append i (take (8 * i) xs) (take 8 (drop (8 * i) xs))
    (omega (arith, length-take (8 * i) xs))

-- ---- from bytes

bit_one : (n : ℕ) → n < 2 → bit (nat_eq n 1) ≡ n
bit_one zero lt = refl
bit_one (suc zero) lt = refl
bit_one (suc (suc n)) lt = absurd (omega arith)

byte_again : (n : ℕ) → n < 256 → bit (nat_eq (bit_at n 0) 1) + 2 * bit (nat_eq (bit_at n 1) 1) + 4 *
    bit (nat_eq (bit_at n 2) 1) + 8 * bit (nat_eq (bit_at n 3) 1)
    + 16 * bit (nat_eq (bit_at n 4) 1) + 32 * bit (nat_eq (bit_at n 5) 1) + 64 * bit
    (nat_eq (bit_at n 6) 1) + 128 * bit (nat_eq (bit_at n 7) 1) ≡ n
byte_again n lt =
    let b0 : bit (nat_eq (bit_at n 0) 1) ≡ n % 2 =
    bit_one (bit_at n 0) (omega arith) ∙ omega arith in
    let b1 : bit (nat_eq (bit_at n 1) 1) ≡ n / 2 % 2 = bit_one (bit_at n 1) (omega arith) in
    let b2 : bit (nat_eq (bit_at n 2) 1) ≡ n / 4 % 2 = bit_one (bit_at n 2) (omega arith) in
    let b3 : bit (nat_eq (bit_at n 3) 1) ≡ n / 8 % 2 = bit_one (bit_at n 3) (omega arith) in
    let b4 : bit (nat_eq (bit_at n 4) 1) ≡ n / 16 % 2 = bit_one (bit_at n 4) (omega arith) in
    let b5 : bit (nat_eq (bit_at n 5) 1) ≡ n / 32 % 2 = bit_one (bit_at n 5) (omega arith) in
    let b6 : bit (nat_eq (bit_at n 6) 1) ≡ n / 64 % 2 = bit_one (bit_at n 6) (omega arith) in
    let b7 : bit (nat_eq (bit_at n 7) 1) ≡ n / 128 % 2 = bit_one (bit_at n 7) (omega arith) in
    rw (b0, b1, b2, b3, b4, b5, b6, b7) (omega arith)

-- the truth value at each place is that bit
abbrev pub AreBitsOf : List Bool → List ℕ → ℕ → Type 0
AreBitsOf bits bytes n = (k : ℕ) → k < n
    → get_or bits k false ≡ nat_eq (bit_at (get_or bytes (k / 8) 0) (k % 8)) 1

pub bits_more : (bits : List Bool) (bytes : List ℕ) (k : ℕ) (b : Bool) → k < length bits
    → AreBitsOf bits bytes k → b ≡ nat_eq (bit_at (get_or bytes (k / 8) 0) (k % 8)) 1
    → AreBitsOf (set bits k b) bytes (k + 1)
bits_more bits bytes k b lt h e =
    let f : ℕ → Bool = λ j. nat_eq (bit_at (get_or bytes (j / 8) 0) (j % 8)) 1 in
    rw e (fill_by_more f bits k false lt h)

pub bits_packed : (bytes : List ℕ) (bits : List Bool) → ((i : ℕ) → get_or bytes i 0 < 256)
    → length bits ≡ 8 * length bytes → AreBitsOf bits bytes (8 * length bytes)
    → packed_bits bits ≡ bytes
bits_packed [] [] small l h = refl
bits_packed [] (x ∷ xs) small l h = absurd (omega arith)
bits_packed (n ∷ ns) (a ∷ b ∷ c ∷ d ∷ e ∷ f ∷ g ∷ i ∷ rest) small l h =
    let whole : List Bool = a ∷ b ∷ c ∷ d ∷ e ∷ f ∷ g ∷ i ∷ rest in
    let head : bit a + 2 * bit b + 4 * bit c + 8 * bit d + 16 * bit e + 32 * bit f + 64 * bit g +
    128 * bit i ≡ n =
    rw (
      h 0 (omega arith),
      h 1 (omega arith),
      h 2 (omega arith),
      h 3 (omega arith),
      h 4 (omega arith),
      h 5 (omega arith),
      h 6 (omega arith),
      h 7 (omega arith),
    )
    (byte_again n (small 0)) in
    let tail : AreBitsOf rest ns (8 * length ns) = λ k lt.
    let q : (8 + k) / 8 ≡ 1 + k / 8 = omega arith in
    let r : (8 + k) % 8 ≡ k % 8 = omega arith in
    get_or-drop 8 whole k false ∙ h (8 + k) (omega arith)
    ∙ ap (λ m. nat_eq (bit_at (get_or (n ∷ ns) m 0) ((8 + k) % 8)) 1) q
    ∙ ap (λ m. nat_eq (bit_at (get_or (n ∷ ns) (1 + k / 8) 0) m) 1) r
    ∙ ap (λ m. nat_eq (bit_at m (k % 8)) 1) (sym (get_or-drop 1 (n ∷ ns) (k / 8) 0)) in
    let small' : (j : ℕ) → get_or ns j 0 < 256 =
    λ j. rw (get_or-drop 1 (n ∷ ns) j 0) (small (1 + j)) in
    ap (λ m. m ∷ packed_bits rest) head
    ∙ ap (λ t. n ∷ t) (bits_packed ns rest small' (omega arith) tail)
bits_packed (n ∷ ns) other small l h = absurd (omega arith)

-- ---- the bytes determine the truth values

bit-less : (a : Bool) → bit a < 2
bit-less true = omega arith
bit-less false = omega arith

same_bit : (a b : Bool) → bit a ≡ bit b → a ≡ b
same_bit true true e = refl
same_bit true false e = absurd (omega arith)
same_bit false true e = absurd (omega arith)
same_bit false false e = refl

eight_bits : (a b c d e f g h a' b' c' d' e' f' g' h' : ℕ) → a < 2 → b < 2 → c < 2 → d < 2 → e < 2
    → f < 2 → g < 2 → h < 2 → a' < 2 → b' < 2 → c' < 2 → d' < 2 → e' < 2 → f' < 2 → g' < 2 → h' < 2
    → a + 2 * b + 4 * c + 8 * d + 16 * e + 32 * f + 64 * g + 128 * h
    ≡ a' + 2 * b' + 4 * c' + 8 * d' + 16 * e' + 32 * f' + 64 * g' + 128 * h'
    → (a ≡ a') × (b ≡ b') × (c ≡ c') × (d ≡ d') × (e ≡ e') × (f ≡ f') × (g ≡ g')
    × (h ≡ h')
eight_bits a b c d e f g h a' b' c' d' e' f' g' h' la lb lc ld le lf lg lh la' lb' lc' ld' le' lf'
    lg' lh' s =
    let ea : a ≡ a' = omega arith in
    let eb : b ≡ b' = omega arith in
    let ec : c ≡ c' = omega arith in
    let ed : d ≡ d' = omega arith in
    let ee : e ≡ e' = omega arith in
    let ef : f ≡ f' = omega arith in
    let eg : g ≡ g' = omega arith in
    let eh : h ≡ h' = omega arith in
    (ea, eb, ec, ed, ee, ef, eg, eh)

pub same_packed : (n : ℕ) (xs ys : List Bool) → length xs ≡ 8 * n → length ys ≡ 8 * n
    → packed_bits xs ≡ packed_bits ys → xs ≡ ys
same_packed zero [] [] l m s = refl
same_packed zero (x ∷ xs) ys l m s = absurd (omega arith)
same_packed zero [] (y ∷ ys) l m s = absurd (omega arith)
same_packed (suc n) (a ∷ b ∷ c ∷ d ∷ e ∷ f ∷ g ∷ h ∷ xs)
    (a' ∷ b' ∷ c' ∷ d' ∷ e' ∷ f' ∷ g' ∷ h' ∷ ys) l m s =
    let head = ap (λ t. get_or t 0 0) s in
    let tail = same_packed n xs ys (omega arith) (omega arith) (ap (λ t. drop 1 t) s) in
    let bits = eight_bits (bit a) (bit b) (bit c) (bit d) (bit e) (bit f) (bit g) (bit h) (bit a')
    (bit b') (bit c') (bit d') (bit e') (bit f') (bit g') (bit h')
    (bit-less a) (bit-less b) (bit-less c) (bit-less d) (bit-less e) (bit-less f) (bit-less g)
    (bit-less h)
    (bit-less a') (bit-less b') (bit-less c') (bit-less d') (bit-less e') (bit-less f')
    (bit-less g') (bit-less h') head in
    let ea : a ≡ a' = same_bit a a' bits.0 in
    let eb : b ≡ b' = same_bit b b' bits.1 in
    let ec : c ≡ c' = same_bit c c' bits.2 in
    let ed : d ≡ d' = same_bit d d' bits.3 in
    let ee : e ≡ e' = same_bit e e' bits.4 in
    let ef : f ≡ f' = same_bit f f' bits.5 in
    let eg : g ≡ g' = same_bit g g' bits.6 in
    let eh : h ≡ h' = same_bit h h' bits.7 in cc
same_packed (suc n) other ys l m s = absurd (omega arith)
