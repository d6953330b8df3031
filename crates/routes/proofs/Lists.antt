-- Lists in a strict order with the same elements are the same list.
use Rattle.std.proofs.Common.{◌≡◌, ℕ, zero, suc, ◌<◌, ◌⊎◌, inl, inr, List, [], ◌∷◌, length, get_or}
use Rattle.std.proofs.Common.{refl, sym, ◌∙◌, subst, arith}
use Rattle.std.specs.List.{AllPairs, Contains}

-- the first element, or one of the others
pub of_cons : {X : Type 0} (x : X) (xs : List X) (y : X) → Contains (x ∷ xs) y
    → (x ≡ y) ⊎ Contains xs y
of_cons x xs y (zero, within, is) = inl is
of_cons x xs y (suc k, within, is) = inr (k, omega (arith, within), is)

pub first_is : {X : Type 0} (x : X) (xs : List X) → Contains (x ∷ xs) x
first_is x xs = (0, omega arith, refl)

pub later_is : {X : Type 0} (x : X) (xs : List X) (y : X) → Contains xs y → Contains (x ∷ xs) y
later_is x xs y (k, within, is) = (suc k, omega (arith, within), is)

pub of_empty : {X : Type 0} (y : X) → Contains [] y → ⊥
of_empty y (k, within, is) = omega (arith, within)

-- the same with another default
stands : {X : Type 0} (xs : List X) (k : ℕ) (x d : X) → k < length xs → get_or xs k x ≡ x
    → get_or xs k d ≡ x
stands [] k x d within is = absurd (omega (arith, within))
stands (y ∷ xs) zero x d within is = is
stands (y ∷ xs) (suc k) x d within is = stands xs k x d (omega (arith, within)) is

module _ {X : Type 0} (R : X → X → Type 0) where
  rest_pairs : (x : X) (xs : List X) → AllPairs R (x ∷ xs) → AllPairs R xs
  rest_pairs x xs all i j d before within =
      all (suc i) (suc j) d (omega (arith, before)) (omega (arith, within))

  first_before : (x : X) (xs : List X) (y : X) → AllPairs R (x ∷ xs) → Contains xs y → R x y
  first_before x xs y all (k, within, is) =
      let P : X → Type 0 = λ z. R x z in
      subst P is (all 0 (suc k) y (omega arith) (omega (arith, within)))

  module _ (never : (x y : X) → R x y → R y x → ⊥) where
    same_first : (x : X) (xs : List X) (y : X) (ys : List X) → AllPairs R (x ∷ xs)
        → AllPairs R (y ∷ ys) → Contains (y ∷ ys) x → Contains (x ∷ xs) y → x ≡ y
    same_first x xs y ys left right p q =
        elim (of_cons y ys x p) [
          | inl e ↦ sym e
          | inr later ↦
              elim (of_cons x xs y q) [
                | inl e ↦ e
                | inr also ↦ absurd (never x y (first_before x xs y left also)
                    (first_before y ys x right later))
              ]
        ]

    -- an element of one rest is one of the other
    in_rest : (x : X) (xs : List X) (y : X) (ys : List X) → x ≡ y → AllPairs R (x ∷ xs) → (z : X)
        → Contains (y ∷ ys) z → Contains xs z → Contains ys z
    in_rest x xs y ys e left z among later =
        let P : X → Type 0 = λ w. R x w in
        elim (of_cons y ys z among) [
          | inl here ↦ let self : R x x =
              subst P (sym (e ∙ here)) (first_before x xs z left later) in
              absurd (never x x self self)
          | inr there ↦ there
        ]

    pub same_lists : (xs ys : List X) → AllPairs R xs → AllPairs R ys
        → ((z : X) → Contains xs z → Contains ys z) → ((z : X) → Contains ys z → Contains xs z)
        → xs ≡ ys
    same_lists [] [] left right forth back = refl
    same_lists [] (y ∷ ys) left right forth back = absurd (of_empty y (back y (first_is y ys)))
    same_lists (x ∷ xs) [] left right forth back = absurd (of_empty x (forth x (first_is x xs)))
    same_lists (x ∷ xs) (y ∷ ys) left right forth back =
        let e : x ≡ y = same_first x xs y ys left right (forth x (first_is x xs))
        (back y (first_is y ys)) in
        let rest : xs ≡ ys = same_lists xs ys (rest_pairs x xs left) (rest_pairs y ys right)
        (λ z later. in_rest x xs y ys e left z (forth z (later_is x xs z later)) later)
        (λ z later. in_rest y ys x xs (sym e) right z (back z (later_is y ys z later)) later) in
        λ i. e i ∷ rest i
