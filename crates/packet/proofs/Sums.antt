-- One's complement sums as sums of numbers that are folded once.
use Rattle.std.proofs.Common.{◌≡◌, ℕ, zero, suc, ◌+◌, ◌-◌, ◌*◌, ◌/◌, ◌%◌, ◌<◌, ◌≤◌, true, false}
use Rattle.std.proofs.Common.{cond, eqb, List, ◌∷◌, length, get_or, take, drop, fold, refl, sym, ap}
use Rattle.std.proofs.Common.{◌∙◌, arith}
use Rattle.std.proofs.lemmas.Bool.{eqb-true, eqb-false, ltb-true, ltb-false}
use Rattle.std.proofs.Math.Nat.{pos_of_ne-zero}
use Rattle.std.proofs.lemmas.List.{take_all}
use Rattle.std.specs.Prelude.{nat_lt}
use Rattle.packet.specs.Checksum.{folded, ones_plus, words_of}

-- a word that differs from a number only by carries
pub record IsFolded (n m : ℕ) : Type 0 where
  pub carries : ℕ
  pub is : n ≡ m + 65535 * carries
  pub within : m ≤ 65535
  pub positive : 0 < n → 0 < m

pub folded-is : (n : ℕ) → IsFolded n (folded n)
folded-is n =
    elim (eqb n 0) as (λ b. eqb n 0 ≡ b → IsFolded n (cond b 0 ((n - 1) % 65535 + 1))) [
      | true ↦ λ e. let zero_sum = eqb-true n 0 e in record {
        carries = 0;
        is = omega (arith, zero_sum);
        within = omega arith;
        positive = λ p. absurd (omega (arith, zero_sum, p));
      }
      | false ↦ λ e. let some = pos_of_ne-zero (eqb-false n 0 e) in record {
        carries = (n - 1) / 65535;
        is = omega (arith, some);
        within = omega arith;
        positive = λ p. omega arith;
      }
    ] refl

-- there is only one
pub folded_to : (n m : ℕ) → IsFolded n m → m ≡ folded n
folded_to zero m h = omega (arith, h.is)
folded_to (suc n) m h =
    let f = folded-is (suc n) in
    let p = h.positive (omega arith) in
    let q = f.positive (omega arith) in
    omega (arith, h.is, h.within, p, f.is, f.within, q)

positive_more : (s r w : ℕ) → (0 < s → 0 < r) → 0 < s + w → 0 < r + w
positive_more zero r w f p = omega (arith, p)
positive_more (suc s) r w f p = let q = f (omega arith) in omega (arith, q)

pub folded-word : (w : ℕ) → w < 65536 → w ≡ folded w
folded-word w small = folded_to w w (record {
  carries = 0;
  is = omega arith;
  within = omega arith;
  positive = λ p. p;
})

-- one more word
pub plus-folded : (s w : ℕ) → w < 65536 → ones_plus (folded s) w ≡ folded (s + w)
plus-folded s w small =
    let f = folded-is s in
    elim (nat_lt (folded s + w) 65536) as
    (λ b. nat_lt (folded s + w) 65536 ≡ b
    → cond b (folded s + w) (folded s + w - 65535) ≡ folded (s + w)) [
      | true ↦ λ e.
          let low = ltb-true (folded s + w) 65536 e in
          folded_to (s + w) (folded s + w) (record {
            carries = f.carries;
            is = omega (arith, f.is);
            within = omega (arith, low);
            positive = positive_more s (folded s) w f.positive;
          })
      | false ↦ λ e.
          let high = ltb-false (folded s + w) 65536 e in
          folded_to (s + w) (folded s + w - 65535)
          (record {
            carries = f.carries + 1;
            is = omega (arith, f.is, high);
            within = omega (arith, f.within, small);
            positive = λ p. omega (arith, high);
          })
    ] refl

-- an upper word may count 65,536 times or once
pub same_folded : (s u v x y : ℕ) → folded (s + u + v + x + y)
    ≡ folded (s + (65536 * u + v + (65536 * x + y)))
same_folded s u v x y =
    let f = folded-is (s + u + v + x + y) in
    folded_to (s + (65536 * u + v + (65536 * x + y))) (folded (s + u + v + x + y))
    (record {
      carries = f.carries + u + x;
      is = omega (arith, f.is);
      within = f.within;
      positive = λ p. f.positive (omega (arith, p));
    })

pub four_words : (s u v x y : ℕ) (ws : List ℕ) → u < 65536 → v < 65536 → x < 65536 → y < 65536
    → fold ones_plus (folded (s + (65536 * u + v + (65536 * x + y)))) ws
    ≡ fold ones_plus (folded s) (u ∷ v ∷ x ∷ y ∷ ws)
four_words s u v x y ws hu hv hx hy =
    let one : ones_plus (folded s) u ≡ folded (s + u) = plus-folded s u hu in
    let two : ones_plus (ones_plus (folded s) u) v ≡ folded (s + u + v) =
    ap (λ n. ones_plus n v) one ∙ plus-folded (s + u) v hv in
    let three : ones_plus (ones_plus (ones_plus (folded s) u) v) x ≡ folded (s + u + v + x) =
    ap (λ n. ones_plus n x) two ∙ plus-folded (s + u + v) x hx in
    let four : ones_plus (ones_plus (ones_plus (ones_plus (folded s) u) v) x) y
    ≡ folded (s + u + v + x + y) = ap (λ n. ones_plus n y) three
    ∙ plus-folded (s + u + v + x) y hy in
    ap (λ n. fold ones_plus n ws) (sym (four ∙ same_folded s u v x y))

-- the first eight bytes and the rest
eight : (bytes : List ℕ) → 8 ≤ length bytes
    → bytes ≡ get_or bytes 0 0 ∷ get_or bytes 1 0 ∷ get_or bytes 2 0 ∷ get_or bytes 3 0
    ∷ get_or bytes 4 0 ∷ get_or bytes 5 0 ∷ get_or bytes 6 0 ∷ get_or bytes 7 0
    ∷ take (length bytes - 8) (drop 8 bytes)
eight (a ∷ b ∷ c ∷ d ∷ e ∷ f ∷ g ∷ h ∷ rest) le =
    ap (λ t. a ∷ b ∷ c ∷ d ∷ e ∷ f ∷ g ∷ h ∷ t)
    (sym (take_all (length (a ∷ b ∷ c ∷ d ∷ e ∷ f ∷ g ∷ h ∷ rest) - 8) rest (omega arith)))
eight short le = absurd (omega (arith, le))

-- the word of two bytes at an index
abbrev pub word_at : List ℕ → ℕ → ℕ
word_at bytes i = 256 * get_or bytes i 0 + get_or bytes (i + 1) 0

-- eight more bytes are added to the sum
pub eight_summed : (s whole : ℕ) (bytes : List ℕ) → 8 ≤ length bytes → word_at bytes 0 < 65536
    → word_at bytes 2 < 65536 → word_at bytes 4 < 65536 → word_at bytes 6 < 65536
    → fold ones_plus (folded s) (words_of bytes) ≡ whole
    → fold ones_plus (folded (s + (65536 * word_at bytes 0 + word_at bytes 2 +
    (65536 * word_at bytes 4 + word_at bytes 6))))
    (words_of (take (length bytes - 8) (drop 8 bytes))) ≡ whole
eight_summed s whole bytes le b0 b2 b4 b6 is =
    four_words s (word_at bytes 0) (word_at bytes 2) (word_at bytes 4) (word_at bytes 6)
    (words_of (take (length bytes - 8) (drop 8 bytes))) b0 b2 b4 b6
    ∙ sym (ap (λ b. fold ones_plus (folded s) (words_of b)) (eight bytes le)) ∙ is

-- a sum may be folded in between
pub folded_twice : (s : ℕ) → folded (folded s) ≡ folded s
folded_twice s =
    let f = folded-is s in
    let t = folded-is (folded s) in
    folded_to s (folded (folded s)) (record {
      carries = f.carries + t.carries;
      is = omega (arith, f.is, t.is);
      within = t.within;
      positive = λ p. t.positive (f.positive p);
    })
