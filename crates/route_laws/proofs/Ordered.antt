-- Lists in the order of their prefixes: by address, then by length.
use Rattle.std.proofs.Common.{◌≡◌, suc, ◌&&◌, ◌||◌, inl, inr, Bool, true, nat_eq, nat_lt, ltb-true}
use Rattle.std.proofs.Common.{eqb-true, List, [], ◌∷◌, arith, sym, ◌∙◌, ap, subst}
use Rattle.std.specs.List.{All, AllPairs, Contains, list_all}
use Rattle.std.proofs.lemmas.List.Elements.{All-cons, All-nil}
use Rattle.std.proofs.lemmas.List.Kept.{AllPairs-cons}
use Rattle.words.specs.Prefixes.{Network}
use Rattle.routes.proofs.Determined.{never_both}
use Rattle.routes.proofs.Lists.{of_cons, of_empty}
use Rattle.routes.specs.Routes.{IsBefore}
use Rattle.routes.specs.Routes.IsBefore.{ByAddress, ByLength}
use Rattle.route_laws.proofs.Entries.{both_true}
use Rattle.route_laws.proofs.Labels.{either_true}

abbrev pub comes_before : Network → Network → Bool
comes_before a b = nat_lt a.address b.address ||
    (nat_eq a.address b.address && nat_lt a.length b.length)

is_before : (a b : Network) → comes_before a b ≡ true → IsBefore a b
is_before a b e =
    elim (either_true (nat_lt a.address b.address)
    (nat_eq a.address b.address && nat_lt a.length b.length) e) [
      | inl less ↦ ByAddress (ltb-true a.address b.address less)
      | inr more ↦
          let both = both_true (nat_eq a.address b.address) (nat_lt a.length b.length) more in
          ByLength (eqb-true a.address b.address both.0) (ltb-true a.length b.length both.1)
    ]

-- each one comes before all later ones
abbrev pub ascend : {X : Type 0} → (X → Network) → List X → Bool
ascend prefix [] = true
ascend {X} prefix (x ∷ xs) =
    list_all (λ (y : X). comes_before (prefix x) (prefix y)) xs && ascend prefix xs

module _ {X : Type 0} (prefix : X → Network) where
  abbrev pub Before : X → X → Type 0
  Before a b = IsBefore (prefix a) (prefix b)

  abbrev pub InOrder : List X → Type 0
  InOrder xs = AllPairs (λ (a : X) (b : X). IsBefore (prefix a) (prefix b)) xs

  before_all : (x : X) (xs : List X)
      → list_all (λ (y : X). comes_before (prefix x) (prefix y)) xs ≡ true → All (Before x) xs
  before_all x [] e = All-nil (Before x)
  before_all x (y ∷ ys) e =
      let both = both_true (comes_before (prefix x) (prefix y))
      (list_all (λ (z : X). comes_before (prefix x) (prefix z)) ys) e in
      All-cons (Before x) y ys (is_before (prefix x) (prefix y) both.0) (before_all x ys both.1)

  pub in_order : (xs : List X) → ascend prefix xs ≡ true → InOrder xs
  in_order [] e = λ i j d before low. absurd (omega (arith, before, low))
  in_order (x ∷ xs) e =
      let both = both_true (list_all (λ (y : X). comes_before (prefix x) (prefix y)) xs)
      (ascend prefix xs) e in
      AllPairs-cons Before x xs (before_all x xs both.0) (in_order xs both.1)

  -- two with the same prefix are the same
  pub one_for_prefix : (xs : List X) → InOrder xs → (a b : X) → Contains xs a → Contains xs b
      → prefix a ≡ prefix b → a ≡ b
  one_for_prefix [] up a b p q same = absurd (of_empty a p)
  one_for_prefix (x ∷ xs) up a b p q same =
      let rest : InOrder xs = λ i j d before low. up (suc i) (suc j) d (omega (arith, before))
      (omega (arith, low)) in
      elim (of_cons x xs a p) [
        | inl here ↦
            elim (of_cons x xs b q) [
              | inl there ↦ sym here ∙ there
              | inr later ↦ absurd (first_apart b later (ap prefix here ∙ same))
            ]
        | inr later ↦
            elim (of_cons x xs b q) [
              | inl there ↦ absurd (first_apart a later (ap prefix there ∙ sym same))
              | inr also ↦ one_for_prefix xs rest a b later also same
            ]
      ]
    where
      first_apart : (r : X) → Contains xs r → prefix x ≡ prefix r → ⊥
      first_apart r t e =
          let P : X → Type 0 = λ s. IsBefore (prefix x) (prefix s) in
          let before : IsBefore (prefix x) (prefix r) =
          subst P t.2 (up 0 (suc t.0) r (omega arith) (omega (arith, t.1))) in
          let Q : Network → Type 0 = λ n. IsBefore (prefix x) n in
          never_both (prefix x) (prefix x) (subst Q (sym e) before) (subst Q (sym e) before)
