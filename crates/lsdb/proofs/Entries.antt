-- The entries of a map, as a list in the order of their keys.
use Rattle.std.proofs.Common.{◌≡◌, zero, suc, ◌⊎◌, inl, inr, Bool, true, false, cond, T, List}
use Rattle.std.proofs.Common.{[], ◌∷◌, Some, refl, sym, ◌∙◌, ap, subst, arith}
use Rattle.std.proofs.lemmas.Option.{none-some, same_Some}
use Rattle.std.specs.Cmp.{tied_itself}
use Rattle.std.specs.List.{Contains, filter}
use Rattle.std.specs.FinMap as finite
use Rattle.std.specs.FinMap.Entries.{below_all, is_sorted}
use Rattle.std.specs.Ordering.{eq_by_cmp, is_eq}
use Rattle.std.specs.declared.cmp.Ordering.TheVariants.{Equal, Less}
use Rattle.words.specs.declared.key.Key.{Key}
use Rattle.lsdb.specs.Keys.{ByKey, key_cmp}
use Rattle.lsdb.proofs.Keys.{first, keys_total, less, second, tied}

-- ---- lists

module _ {X : Type 0} where
  pub of_cons : (x : X) (xs : List X) (y : X) → Contains (x ∷ xs) y → (x ≡ y) ⊎ Contains xs y
  of_cons x xs y (zero, within, is) = inl is
  of_cons x xs y (suc k, within, is) = inr (k, omega (arith, within), is)

  pub first_is : (x : X) (xs : List X) → Contains (x ∷ xs) x
  first_is x xs = (0, omega arith, refl)

  pub later_is : (x : X) (xs : List X) (y : X) → Contains xs y → Contains (x ∷ xs) y
  later_is x xs y (k, within, is) = (suc k, omega (arith, within), is)

  pub of_empty : (y : X) → Contains [] y → ⊥
  of_empty y (k, within, is) = omega (arith, within)

  -- tests that answer the same for each item select the same items
  pub filter_alike : (p q : X → Bool) (xs : List X) → ((x : X) → Contains xs x → p x ≡ q x)
      → filter p xs ≡ filter q xs
  filter_alike p q [] alike = refl
  filter_alike p q (x ∷ xs) alike =
      let rest = filter_alike p q xs (λ y t. alike y (later_is x xs y t)) in
      λ i. cond (alike x (first_is x xs) i) (x ∷ rest i) (rest i)

-- ---- the order of keys

module _ {X : Type 0} where
  pub below : (key : Key) (es : List (Key × X)) (x : Key × X) → T (below_all key_cmp key es)
      → Contains es x → key_cmp key x.0 ≡ Less
  below key [] x all among = absurd (of_empty x among)
  below key (e ∷ es) x all among =
      elim (of_cons e es x among) [
        | inl here ↦ let P : Key × X → Type 0 = λ y. key_cmp key y.0 ≡ Less in
            subst P here (less _ (first _ _ all))
        | inr later ↦ below key es x (second _ _ all) later
      ]

  pub found_in : (es : List (Key × X)) (q : Key) (l : X) → finite.find key_cmp q es ≡ Some l
      → Contains es (q, l)
  found_in [] q l is = absurd (none-some l is)
  found_in (e ∷ es) q l is =
      elim (eq_by_cmp key_cmp q e.0) as
      (λ b. eq_by_cmp key_cmp q e.0 ≡ b → cond b (Some e.1) (finite.find key_cmp q es) ≡ Some l
      → Contains (e ∷ es) (q, l)) [
        | true ↦ λ same some.
            let P : Key → X → Type 0 = λ k x. Contains (e ∷ es) (k, x) in
            subst (λ k. P k l) (sym (tied q e.0 same))
            (subst (λ x. P e.0 x) (same_Some e.1 l some) (first_is e es))
        | false ↦ λ other some. later_is e es (q, l) (found_in es q l some)
      ] refl is

  pub found_at : (es : List (Key × X)) → T (is_sorted key_cmp es) → (q : Key) (l : X)
      → Contains es (q, l) → finite.find key_cmp q es ≡ Some l
  found_at [] sorted q l among = absurd (of_empty (q, l) among)
  found_at (e ∷ es) sorted q l among =
      let P : Bool → Type 0 = λ b. cond b (Some e.1) (finite.find key_cmp q es) ≡ Some l in
      elim (of_cons e es (q, l) among) [
        | inl here ↦
            let same : e.0 ≡ q = ap (λ (x : Key × X). x.0) here in
            let is : eq_by_cmp key_cmp q e.0 ≡ true =
            ap (λ k. eq_by_cmp key_cmp q k) same ∙ ap is_eq (tied_itself keys_total q) in
            subst P (sym is) (ap (λ (x : Key × X). Some x.1) here)
        | inr later ↦
            let before : key_cmp e.0 q ≡ Less = below e.0 es (q, l) (first _ _ sorted) later in
            elim (eq_by_cmp key_cmp q e.0) as (λ b. eq_by_cmp key_cmp q e.0 ≡ b → P b) [
              | true ↦ λ same.
                  let no : Equal ≡ Less = sym (tied_itself keys_total e.0)
                  ∙ ap (λ k. key_cmp e.0 k) (sym (tied q e.0 same)) ∙ before in
                  absurd (cc)
              | false ↦ λ other. found_at es (second _ _ sorted) q l later
            ] refl
      ]

  -- what is among the entries is what the map has
  pub entry_found : (m : ByKey X) (e : Key × X) → Contains (finite.entries m) e
      → finite.get m e.0 ≡ Some e.1
  entry_found m e among = finite.get-entries m e.0
      ∙ found_at (finite.entries m) (finite.entries_sorted m) e.0 e.1 among
