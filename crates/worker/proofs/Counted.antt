-- Descending numbers, and the next one.
use Rattle.std.proofs.Common.{◌≡◌, ℕ, ◌+◌, List, [], ◌∷◌, ◌++◌, map, length, refl, sym, subst, ap}
use Rattle.std.proofs.Common.{◌∙◌, arith}
use Rattle.std.proofs.lemmas.List.{map-append, length-append}
use Rattle.worker.specs.Descending.{CountDownTo}

pub counted_on : (last : ℕ) (ns : List ℕ) → CountDownTo (last + 1) ns
    → CountDownTo last (ns ++ last ∷ [])
counted_on last [] h = (omega arith, tt)
counted_on last (n ∷ ns) h =
    let longer : length (ns ++ last ∷ []) ≡ length ns + 1 = length-append ns (last ∷ []) in
    (omega (arith, h.0, longer), counted_on last ns h.1)

pub counted_more : {A : Type 0} (f : A → ℕ) (last : ℕ) (xs : List A) (x : A) → f x ≡ last
    → CountDownTo (last + 1) (map f xs) → CountDownTo last (map f (xs ++ x ∷ []))
counted_more f last xs x same h =
    subst (CountDownTo last) (ap (λ n. map f xs ++ n ∷ []) (sym same)
    ∙ sym (map-append f xs (x ∷ []))) (counted_on last (map f xs) h)

counted_before : (last : ℕ) (ns : List ℕ) (n : ℕ) → CountDownTo last (ns ++ n ∷ [])
    → (n ≡ last) × CountDownTo (last + 1) ns
counted_before last [] n h = (omega (arith, h.0), tt)
counted_before last (m ∷ ns) n h =
    let shorter = counted_before last ns n h.1 in
    let longer : length (ns ++ n ∷ []) ≡ length ns + 1 = length-append ns (n ∷ []) in
    (shorter.0, (omega (arith, h.0, longer), shorter.1))

-- the last number, and those before it
pub counted_off : {A : Type 0} (f : A → ℕ) (last : ℕ) (xs : List A) (x : A)
    → CountDownTo last (map f (xs ++ x ∷ [])) → (f x ≡ last) × CountDownTo (last + 1) (map f xs)
counted_off f last xs x h =
    counted_before last (map f xs) (f x) (subst (CountDownTo last) (map-append f xs (x ∷ [])) h)

-- lists of descending numbers of the same length and with the same last one are the same
pub counted_same : (last : ℕ) (ns ms : List ℕ) → length ns ≡ length ms → CountDownTo last ns
    → CountDownTo last ms → ns ≡ ms
counted_same last [] [] e h k = refl
counted_same last [] (m ∷ ms) e h k = absurd (omega (arith, e))
counted_same last (n ∷ ns) [] e h k = absurd (omega (arith, e))
counted_same last (n ∷ ns) (m ∷ ms) e h k =
    let shorter : length ns ≡ length ms = omega (arith, e) in
    let rest : ns ≡ ms = counted_same last ns ms shorter h.1 k.1 in
    let first : n ≡ m = omega (arith, h.0, k.0, shorter) in
    ap (λ i. i ∷ ns) first ∙ ap (λ is. m ∷ is) rest
