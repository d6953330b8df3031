-- Properties of all entries of a finite map by key.
use Rattle.std.proofs.Common.{◌≡◌, Bool, true, false, cond, ◌&&◌, List, [], ◌∷◌, Option, None, Some}
use Rattle.std.proofs.Common.{refl, sym, ap, subst, ◌∙◌}
use Rattle.std.specs.Prelude.{T}
use Rattle.std.specs.Cmp.{tied_itself}
use Rattle.std.specs.List.{AllByRecursion}
use Rattle.std.specs.Ordering.{eq_by_cmp, is_eq, is_lt}
use Rattle.std.specs.declared.cmp.Ordering.{Ordering}
use Rattle.std.specs.declared.cmp.Ordering.TheVariants.{Less, Equal, Greater}
use Rattle.std.specs.FinMap as finite
use Rattle.std.specs.FinMap.Entries.{below_all, find_tied, is_sorted}
use Rattle.std.specs.FinMap.Entries as entries
use Rattle.words.specs.declared.key.Key.{Key}
use Rattle.lsdb.specs.Keys.{ByKey, key_cmp}
use Rattle.lsdb.proofs.Keys.{keys_exact, keys_total}
use Rattle.adjacency.proofs.Kept.{chosen}

abbrev pub IfThere : {X : Type 0} → (Key → X → Type 0) → Key → Option X → Type 0
IfThere P key None = Unit {0}
IfThere P key (Some x) = P key x

-- each key and its value have the property
abbrev pub AllIn : {X : Type 0} → (Key → X → Type 0) → ByKey X → Type 0
AllIn P m = (key : Key) → IfThere P key (finite.get m key)

abbrev pub OfEntry : {X : Type 0} → (Key → X → Type 0) → (Key × X) → Type 0
OfEntry P e = P e.0 e.1

two_tests : (a b : Bool) → T (a && b) → T a × T b
two_tests true b h = (tt, h)
two_tests false b h = absurd h

not_tied : (r : Ordering) → T (is_lt r) → is_eq r ≡ false
not_tied Less h = refl
not_tied Equal h = absurd h
not_tied Greater h = absurd h

tied : (r : Ordering) → is_eq r ≡ true → r ≡ Equal
tied Less e = absurd cc
tied Equal e = refl
tied Greater e = absurd cc

module _ {X : Type 0} (P : Key → X → Type 0) where
  pub none_in : AllIn P finite.empty
  none_in key = subst (IfThere P key) (sym (finite.get-empty key_cmp key)) tt

  pub inserted_in : (m : ByKey X) (key : Key) (x : X) → AllIn P m → P key x
      → AllIn P (finite.insert m key x)
  inserted_in m key x all here q =
      subst (IfThere P q) (sym (finite.get-insert keys_total m key x q))
      (chosen (IfThere P q) (eq_by_cmp key_cmp q key) (Some x) (finite.get m q)
      (λ is. subst (λ (k : Key). P k x) (sym (keys_exact q key (tied (key_cmp q key) is))) here)
      (λ is. all q))

  pub removed_in : (m : ByKey X) (key : Key) → AllIn P m → AllIn P (finite.remove m key)
  removed_in m key all q =
      subst (IfThere P q) (sym (finite.get-remove keys_total m key q))
      (chosen (IfThere P q) (eq_by_cmp key_cmp q key) None (finite.get m q) (λ is. tt)
      (λ is. all q))

  pub retained_in : (m : ByKey X) (p : Key → Bool) → AllIn P m → AllIn P (finite.retain_keys m p)
  retained_in m p all q =
      subst (IfThere P q) (sym (finite.get-retain_keys m p q
      (λ x e. ap p (sym (keys_exact q x e)))))
      (chosen (IfThere P q) (p q) (finite.get m q) None (λ is. all q) (λ is. tt))

  pub made_in : (es : List (Key × X)) → AllByRecursion (OfEntry P) es
      → AllIn P (finite.from_entries es)
  made_in [] h = none_in
  made_in (e ∷ es) h = inserted_in (finite.from_entries es) e.0 e.1 (made_in es h.1) h.0

  -- a key below all keys isn't among them
  absent : (key : Key) (es : List (Key × X)) → T (below_all key_cmp key es)
      → entries.find key_cmp key es ≡ None
  absent key [] h = refl
  absent key (e ∷ es) h =
      let both = two_tests (is_lt (key_cmp key e.0)) (below_all key_cmp key es) h in
      ap (λ b. cond b (Some e.1) (entries.find key_cmp key es)) (not_tied (key_cmp key e.0) both.0)
      ∙ absent key es both.1

  all_found : (es : List (Key × X)) → T (is_sorted key_cmp es)
      → ((q : Key) → IfThere P q (entries.find key_cmp q es)) → AllByRecursion (OfEntry P) es
  all_found [] sorted all = tt
  all_found (e ∷ es) sorted all =
      let both = two_tests (below_all key_cmp e.0 es) (is_sorted key_cmp es) sorted in
      let here : IfThere P e.0 (Some e.1) =
      subst (λ r. IfThere P e.0 (cond (is_eq r) (Some e.1) (entries.find key_cmp e.0 es)))
      (tied_itself keys_total e.0) (all e.0) in
      (here, all_found es both.1 (λ q. behind q both.0 (eq_by_cmp key_cmp q e.0) refl (all q)))
    where
      behind : (q : Key) → T (below_all key_cmp e.0 es) → (b : Bool) → eq_by_cmp key_cmp q e.0 ≡ b
          → IfThere P q (cond b (Some e.1) (entries.find key_cmp q es))
          → IfThere P q (entries.find key_cmp q es)
      behind q below true is h = subst (IfThere P q)
          (sym (absent e.0 es below) ∙ find_tied key_cmp keys_total q e.0 (tied (key_cmp q e.0) is)
          es) tt
      behind q below false is h = h

  pub entries_in : (m : ByKey X) → AllIn P m → AllByRecursion (OfEntry P) (finite.entries m)
  entries_in m all = all_found (finite.entries m) (finite.entries_sorted m)
      (λ q. subst (IfThere P q) (finite.get-entries m q) (all q))

  -- a property of all entries
  found_in : (es : List (Key × X)) → AllByRecursion (OfEntry P) es → (q : Key)
      → IfThere P q (entries.find key_cmp q es)
  found_in [] h q = tt
  found_in (e ∷ es) h q =
      chosen (IfThere P q) (eq_by_cmp key_cmp q e.0) (Some e.1) (entries.find key_cmp q es)
      (λ is. subst (λ (k : Key). P k e.1) (sym (keys_exact q e.0 (tied (key_cmp q e.0) is))) h.0)
      (λ is. found_in es h.1 q)

  pub of_entries : (m : ByKey X) → AllByRecursion (OfEntry P) (finite.entries m) → AllIn P m
  of_entries m h q = subst (IfThere P q) (sym (finite.get-entries m q))
      (found_in (finite.entries m) h q)
