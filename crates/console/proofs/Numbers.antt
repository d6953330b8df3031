-- Numbers separated by commas.
use Rattle.std.proofs.Common.{◌≡◌, ℕ, zero, suc, ◌+◌, add-one, arith, List, [], ◌∷◌, ◌++◌, Bool}
use Rattle.std.proofs.Common.{true, false, refl, ap, ◌∙◌, sym, append_assoc, if◌then◌else◌}
use Rattle.std.specs.Prelude.{decimal, filter}
use Rattle.std.specs.List.{range_with_len}
use Rattle.words.specs.Interfaces.{has_interface}
use Rattle.console.specs.Answers.{interfaces_below, numbers_text}

abbrev pub is_empty : List ℕ → Bool
is_empty [] = true
is_empty (x ∷ xs) = false

-- a number after those that are written
abbrev pub next_text : List ℕ → ℕ → List ℕ
next_text numbers n = if is_empty numbers then decimal n else 44 ∷ decimal n

pub numbers_more : (numbers : List ℕ) (n : ℕ)
    → numbers_text (numbers ++ n ∷ []) ≡ numbers_text numbers ++ next_text numbers n
numbers_more [] n = refl
numbers_more (a ∷ []) n = refl
numbers_more (a ∷ b ∷ rest) n =
    ap (λ (tail : List ℕ). decimal a ++ 44 ∷ tail) (numbers_more (b ∷ rest) n)
    ∙ sym (append_assoc (decimal a) (44 ∷ numbers_text (b ∷ rest)) (44 ∷ decimal n))

filter_more : (p : ℕ → Bool) (xs : List ℕ) (x : ℕ)
    → filter p (xs ++ x ∷ []) ≡ (if p x then filter p xs ++ x ∷ [] else filter p xs)
filter_more p [] x = refl
filter_more p (y ∷ ys) x = elim (p y) as
    (λ b. p y ≡ b → filter p (y ∷ (ys ++ x ∷ []))
    ≡ (if p x then filter p (y ∷ ys) ++ x ∷ [] else filter p (y ∷ ys))) [
      | true ↦ λ q. rw q (behind y (p x) (filter p ys) x (filter p (ys ++ x ∷ []))
          (filter_more p ys x))
      | false ↦ λ q. rw q (filter_more p ys x)
    ] refl
  where
    behind : (y : ℕ) (b : Bool) (kept : List ℕ) (x : ℕ) (all : List ℕ)
        → all ≡ (if b then kept ++ x ∷ [] else kept)
        → y ∷ all ≡ (if b then (y ∷ kept) ++ x ∷ [] else y ∷ kept)
    behind y true kept x all e = ap (λ rest. y ∷ rest) e
    behind y false kept x all e = ap (λ rest. y ∷ rest) e

range_more : (a n j : ℕ) → a + n ≡ j → range_with_len a (suc n) ≡ range_with_len a n ++ j ∷ []
range_more a zero j e = ap (λ k. k ∷ []) (let same : a ≡ j = omega arith in same)
range_more a (suc n) j e = ap (λ rest. a ∷ rest) (range_more (a + 1) n j (omega arith))

-- one more interface
pub interfaces_more : (n hops : ℕ)
    → interfaces_below (n + 1) hops ≡
    (if has_interface hops n then interfaces_below n hops ++ n ∷ [] else
    interfaces_below n hops)
interfaces_more n hops =
    let more : range_with_len 0 (n + 1) ≡ range_with_len 0 n ++ n ∷ [] =
    rw (add-one n) (range_more 0 n n (omega arith)) in
    ap (filter (has_interface hops)) more ∙ filter_more (has_interface hops) (range_with_len 0 n) n

empty_more : (numbers : List ℕ) (n : ℕ) → is_empty (numbers ++ n ∷ []) ≡ false
empty_more [] n = refl
empty_more (a ∷ rest) n = refl

-- what is written for the interfaces below n, and then for n
pub written_more : (n hops : ℕ) (old mid new : List ℕ) (first : Bool) → has_interface hops n ≡ true
    → mid ≡ old ++ numbers_text (interfaces_below n hops)
    → first ≡ is_empty (interfaces_below n hops)
    → new ≡ mid ++ (if first then decimal n else 44 ∷ decimal n)
    → (new ≡ old ++ numbers_text (interfaces_below (n + 1) hops))
    × (false ≡ is_empty (interfaces_below (n + 1) hops))
written_more n hops old mid new first has e empty f =
    let more : interfaces_below (n + 1) hops ≡ interfaces_below n hops ++ n ∷ [] =
    rw (interfaces_more n hops, has) refl in (
      f ∙ ap (λ (b : Bool). mid ++ (if b then decimal n else 44 ∷ decimal n)) empty
          ∙ ap (λ (m : List ℕ). m ++ next_text (interfaces_below n hops) n) e
          ∙ append_assoc old (numbers_text (interfaces_below n hops))
          (next_text (interfaces_below n hops) n)
          ∙ ap (λ (t : List ℕ). old ++ t) (sym (numbers_more (interfaces_below n hops) n))
          ∙ ap (λ (t : List ℕ). old ++ numbers_text t) (sym more),
      sym (ap is_empty more ∙ empty_more (interfaces_below n hops) n),
    )

pub written_same : (n hops : ℕ) (old mid : List ℕ) (first : Bool) → has_interface hops n ≡ false
    → mid ≡ old ++ numbers_text (interfaces_below n hops)
    → first ≡ is_empty (interfaces_below n hops)
    → (mid ≡ old ++ numbers_text (interfaces_below (n + 1) hops))
    × (first ≡ is_empty (interfaces_below (n + 1) hops))
written_same n hops old mid first has e empty =
    let same : interfaces_below (n + 1) hops ≡ interfaces_below n hops =
    rw (interfaces_more n hops, has) refl in
    (e ∙ ap (λ (t : List ℕ). old ++ numbers_text t) (sym same), empty ∙ ap is_empty (sym same))
