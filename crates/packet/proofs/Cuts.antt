-- LSAs taken off the front of a Link State Update's bytes, one by one.
use Rattle.std.proofs.Common.{◌≡◌, ℕ, suc, ◌+◌, ◌-◌, ◌<◌, ◌≤◌, ◌⊎◌, inl, inr, Bool, true, false}
use Rattle.std.proofs.Common.{◌&&◌, leb, List, [], ◌∷◌, ◌++◌, length, take, drop, refl, sym, ap}
use Rattle.std.proofs.Common.{◌∙◌, append_assoc, arith}
use Rattle.std.proofs.lemmas.Bool.{and_parts, le-leb, leb-true, lt-leb}
use Rattle.words.specs.Fields.{field}
use Rattle.packet.specs.Reading.{are_lsas, lsas_of}

abbrev size_of : List ℕ → ℕ
size_of bytes = field bytes 18 2

-- one more LSA
more : (n i : ℕ) (bytes : List ℕ) → i < n
    → are_lsas (n - i) bytes ≡ (leb 20 (length bytes) && leb 20 (size_of bytes) && leb
    (size_of bytes) (length bytes) && are_lsas (n - (i + 1)) (drop (size_of bytes) bytes))
more n i bytes lt =
    let k : n - i ≡ suc (n - (i + 1)) = omega arith in
    ap (λ m. are_lsas m bytes) k

pub lsas_short : (n i : ℕ) (bytes : List ℕ) → i < n → length bytes < 20
    → are_lsas (n - i) bytes ≡ false
lsas_short n i bytes lt short = more n i bytes lt
    ∙ ap (λ b. b && leb 20 (size_of bytes) && leb (size_of bytes) (length bytes) && are_lsas
    (n - (i + 1)) (drop (size_of bytes) bytes)) (lt-leb 20 (length bytes) short)

and_false : (a b : Bool) → a ≡ false → (b && a) ≡ false
and_false a true e = e
and_false a false e = refl

pub lsas_cut : (n i : ℕ) (bytes : List ℕ) → i < n
    → (size_of bytes < 20) ⊎ (length bytes < size_of bytes) → are_lsas (n - i) bytes ≡ false
lsas_cut n i bytes lt (inl small) =
    more n i bytes lt ∙ ap (λ b. b && leb (size_of bytes) (length bytes) && are_lsas (n - (i + 1))
    (drop (size_of bytes) bytes)) (and_false (leb 20 (size_of bytes)) (leb 20 (length bytes))
    (lt-leb 20 (size_of bytes) small))
lsas_cut n i bytes lt (inr long) =
    more n i bytes lt ∙ ap (λ b. b && are_lsas (n - (i + 1)) (drop (size_of bytes) bytes))
    (and_false (leb (size_of bytes) (length bytes))
    (leb 20 (length bytes) && leb 20 (size_of bytes))
    (lt-leb (size_of bytes) (length bytes) long))

pub lsas_on : (n i : ℕ) (bytes : List ℕ) → i < n → 20 ≤ length bytes → 20 ≤ size_of bytes
    → size_of bytes ≤ length bytes → are_lsas (n - i) bytes
    ≡ are_lsas (n - (i + 1)) (drop (size_of bytes) bytes)
lsas_on n i bytes lt room least fits =
    more n i bytes lt ∙ (λ j. le-leb 20 (length bytes) room j && le-leb 20 (size_of bytes) least j
    && le-leb (size_of bytes) (length bytes) fits j && are_lsas (n - (i + 1))
    (drop (size_of bytes) bytes))

-- what is known about the next LSA
pub record IsNext (n i : ℕ) (bytes : List ℕ) : Type 0 where
  pub room : 20 ≤ length bytes
  pub least : 20 ≤ size_of bytes
  pub fits : size_of bytes ≤ length bytes
  pub after : are_lsas (n - (i + 1)) (drop (size_of bytes) bytes) ≡ true

pub lsas_next : (n i : ℕ) (bytes : List ℕ) → i < n → are_lsas (n - i) bytes ≡ true
    → IsNext n i bytes
lsas_next n i bytes lt whole =
    let a = and_parts (leb 20 (length bytes) && leb 20 (size_of bytes) && leb (size_of bytes)
    (length bytes)) (are_lsas (n - (i + 1)) (drop (size_of bytes) bytes))
    (sym (more n i bytes lt) ∙ whole) in
    let b = and_parts (leb 20 (length bytes) && leb 20 (size_of bytes))
    (leb (size_of bytes) (length bytes)) a.0 in
    let d = and_parts (leb 20 (length bytes)) (leb 20 (size_of bytes)) b.0 in
    record {
      room = leb-true 20 (length bytes) d.0;
      least = leb-true 20 (size_of bytes) d.1;
      fits = leb-true (size_of bytes) (length bytes) b.1;
      after = a.1;
    }

-- a loop that has taken off one more LSA
pub cut_step : (n i : ℕ) (bytes : List ℕ) (front after total : List (List ℕ)) (lsa : List ℕ) → i < n
    → lsa ≡ take (size_of bytes) bytes → after ≡ front ++ lsa ∷ []
    → front ++ lsas_of (n - i) bytes ≡ total
    → after ++ lsas_of (n - (i + 1)) (drop (size_of bytes) bytes) ≡ total
cut_step n i bytes front after total lsa lt is pushed so_far =
    let k : n - i ≡ suc (n - (i + 1)) = omega arith in
    let rest = lsas_of (n - (i + 1)) (drop (size_of bytes) bytes) in
    (λ j. pushed j ++ lsas_of (n - (i + 1)) (drop (size_of bytes) bytes))
    ∙ append_assoc front (lsa ∷ []) (lsas_of (n - (i + 1)) (drop (size_of bytes) bytes))
    ∙ (λ j. front ++ (is j ∷ lsas_of (n - (i + 1)) (drop (size_of bytes) bytes)))
    ∙ ap (λ m. front ++ lsas_of m bytes) (sym k) ∙ so_far

-- the same for the first of some LSAs
pub record IsFirst (n : ℕ) (bytes : List ℕ) : Type 0 where
  pub room : 20 ≤ length bytes
  pub least : 20 ≤ size_of bytes
  pub fits : size_of bytes ≤ length bytes
  pub after : are_lsas n (drop (size_of bytes) bytes) ≡ true

pub lsas_first : (n : ℕ) (bytes : List ℕ) → are_lsas (suc n) bytes ≡ true → IsFirst n bytes
lsas_first n bytes whole =
    let none : suc n - 0 ≡ suc n = omega arith in
    let less : suc n - (0 + 1) ≡ n = omega arith in
    let next = lsas_next (suc n) 0 bytes (omega arith) (ap (λ m. are_lsas m bytes) none ∙ whole) in
    record {
      room = next.room;
      least = next.least;
      fits = next.fits;
      after = ap (λ m. are_lsas m (drop (size_of bytes) bytes)) (sym less) ∙ next.after;
    }
