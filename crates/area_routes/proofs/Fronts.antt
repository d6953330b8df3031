-- What holds of the elements of a list, as they are visited one after the other.
use Rattle.std.proofs.Common.{◌≡◌, ◌<◌, ◌≤◌, ◌+◌, ℕ, List, ◌∷◌, [], ◌++◌, inl, inr, length, get_or}
use Rattle.std.proofs.Common.{take, sym, subst, ◌∙◌, ap}
use Rattle.std.specs.List.{Contains}
use Rattle.std.proofs.lemmas.List.{take_all, take_more}
use Rattle.std.proofs.lemmas.List.Elements.{Contains-push_cases}
use Rattle.routes.proofs.Lists.{of_empty}

-- it holds of each of the first i elements
abbrev pub OfFront : {X : Type 0} → (X → Type 0) → List X → ℕ → Type 0
OfFront {X} P xs i = (x : X) → Contains (take i xs) x → P x

module _ {X : Type 0} (P : X → Type 0) (xs : List X) where
  pub front_none : OfFront P xs 0
  front_none x among = absurd (of_empty x among)

  pub front_more : (i : ℕ) (y : X) → i < length xs → y ≡ get_or xs i y → OfFront P xs i → P y
      → OfFront P xs (i + 1)
  front_more i y lt is front p x among =
      let split = take_more xs i y lt ∙ ap (λ (z : X). take i xs ++ z ∷ []) (sym is) in
      elim (Contains-push_cases (take i xs) y x (subst (λ ys. Contains ys x) split among)) [
        | inl before ↦ front x before
        | inr here ↦ subst P here p
      ]

  pub front_all : (i : ℕ) → length xs ≤ i → OfFront P xs i → (x : X) → Contains xs x → P x
  front_all i le front x among = front x
      (subst (λ ys. Contains ys x) (sym (take_all i xs le)) among)
