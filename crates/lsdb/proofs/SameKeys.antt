-- Maps with the same keys, whatever their values.
use Rattle.std.proofs.Common.{◌≡◌, ℕ, Bool, true, false, cond, T, List, [], ◌∷◌, map, ◌&&◌, refl}
use Rattle.std.proofs.Common.{sym, ap, subst, ◌∙◌}
use mathlib.Core.Bool.{false≢true}
use Rattle.std.specs.Prelude.{Option, Some, None, is_some}
use Rattle.std.specs.FinMap as finite
use Rattle.std.specs.FinMap.Entries.{below_all}
use Rattle.std.specs.Ordering.{eq_by_cmp, is_lt}
use Rattle.words.specs.declared.key.Key.{Key}
use Rattle.keyed_map.specs.Slots.{keys_where}
use Rattle.lsdb.specs.Copies.{Database, DatabaseCopy, max_age_keys, is_aged_out}
use Rattle.lsdb.specs.Foresight.{aged_at}
use Rattle.lsdb.specs.Keys.{ByKey, key_cmp}
use Rattle.lsdb.proofs.Entries.{entry_found, filter_alike}
use Rattle.lsdb.proofs.Keys.{same}
use Rattle.lsdb.proofs.Owned.{contains_kept, entries_kept}

module _ {X : Type 0} where
  -- the keys without values
  abbrev bare : List (Key × X) → List (Key × Unit {0})
  bare [] = []
  bare (e ∷ es) = (e.0, tt) ∷ bare es

  below_bare : (x : Key) (es : List (Key × X))
      → below_all key_cmp x (bare es) ≡ below_all key_cmp x es
  below_bare x [] = refl
  below_bare x (e ∷ es) = ap (λ b. is_lt (key_cmp x e.0) && b) (below_bare x es)

  sorted_bare : (es : List (Key × X))
      → finite.is_sorted key_cmp (bare es) ≡ finite.is_sorted key_cmp es
  sorted_bare [] = refl
  sorted_bare (e ∷ es) = λ i. below_bare e.0 es i && sorted_bare es i

  found : (b : Bool) (x : X) (o : Option (Unit {0})) (p : Option X) → is_some o ≡ is_some p
      → is_some (cond b (Some tt) o) ≡ is_some (cond b (Some x) p)
  found true x o p is = refl
  found false x o p is = is

  find_bare : (q : Key) (es : List (Key × X))
      → is_some (finite.find key_cmp q (bare es)) ≡ is_some (finite.find key_cmp q es)
  find_bare q [] = refl
  find_bare q (e ∷ es) = found (eq_by_cmp key_cmp q e.0) e.1 (finite.find key_cmp q (bare es))
      (finite.find key_cmp q es) (find_bare q es)

  keys_bare : (es : List (Key × X)) → map (λ e. e.0) (bare es) ≡ map (λ e. e.0) es
  keys_bare [] = refl
  keys_bare (e ∷ es) = ap (λ ks. e.0 ∷ ks) (keys_bare es)

  key_set : ByKey X → ByKey (Unit {0})
  key_set m = finite.from_sorted (bare (finite.entries m))

  sorted_set : (m : ByKey X) → T (finite.is_sorted key_cmp (bare (finite.entries m)))
  sorted_set m = subst T (sym (sorted_bare (finite.entries m))) (finite.entries_sorted m)

  has_key : (m : ByKey X) (q : Key) → finite.contains_key (key_set m) q ≡ finite.contains_key m q
  unfolding key_set
  has_key m q =
      ap is_some (finite.get-from_sorted key_cmp (bare (finite.entries m)) q (sorted_set m))
      ∙ find_bare q (finite.entries m) ∙ sym (ap is_some (finite.get-entries m q))

  set_keys : (m : ByKey X) → finite.keys (key_set m) ≡ finite.keys m
  unfolding key_set
  set_keys m =
      ap (map (λ e. e.0)) (finite.entries-from_sorted key_cmp (bare (finite.entries m))
      (sorted_set m))
      ∙ keys_bare (finite.entries m)

  -- the keys that pass a test, in a map without the others
  keys_kept : (p : Key → Bool) (m : ByKey X)
      → keys_where (λ k x. p k) (finite.entries m) ≡ finite.keys (finite.retain_keys m p)
  keys_kept p m = ap (map (λ e. e.0)) (sym (entries_kept p m))

units : (o p : Option (Unit {0})) → is_some o ≡ is_some p → o ≡ p
units None None is = refl
units None (Some u) is = absurd (subst T (sym is) tt)
units (Some u) None is = absurd (subst T is tt)
units (Some u) (Some v) is = refl

both_or_neither : (a b c : Bool) → (c ≡ true → a ≡ true) → (c ≡ true → b ≡ true)
    → (a && c) ≡ (b && c)
both_or_neither a b true is as_is = ap (λ x. x && true) (is refl ∙ sym (as_is refl))
both_or_neither true true false is as_is = refl
both_or_neither true false false is as_is = refl
both_or_neither false true false is as_is = refl
both_or_neither false false false is as_is = refl

module _ {X Y : Type 0} where
  pub same_keys : (m : ByKey X) (n : ByKey Y)
      → ((q : Key) → finite.contains_key m q ≡ finite.contains_key n q)
      → finite.keys m ≡ finite.keys n
  same_keys m n is =
      let sets : key_set m ≡ key_set n =
      same _ _ (λ q. units _ _ (has_key m q ∙ is q ∙ sym (has_key n q))) in
      sym (set_keys m) ∙ ap finite.keys sets ∙ set_keys n

  -- if both maps have each key that passes, the same keys of both pass
  keys_passing : (p : Key → Bool) (m : ByKey X) (n : ByKey Y)
      → ((q : Key) → p q ≡ true → finite.contains_key m q ≡ true)
      → ((q : Key) → p q ≡ true → finite.contains_key n q ≡ true)
      → keys_where (λ k x. p k) (finite.entries m)
      ≡ keys_where (λ k y. p k) (finite.entries n)
  keys_passing p m n has there =
      keys_kept p m
      ∙ same_keys (finite.retain_keys m p) (finite.retain_keys n p) (λ q.
      contains_kept p m q
      ∙ both_or_neither (finite.contains_key m q) (finite.contains_key n q) (p q) (has q) (there q)
      ∙ sym (contains_kept p n q))
      ∙ sym (keys_kept p n)

aged_there : (moment : ℕ) (o : Option DatabaseCopy) → aged_at moment o ≡ true → is_some o ≡ true
aged_there moment None is = absurd (false≢true is)
aged_there moment (Some c) is = refl

-- the keys of a map that has each key whose copy is at MaxAge, of which those pass, are those of
-- the copies at MaxAge
pub keys_aged : {X : Type 0} (moment : ℕ) (m : ByKey X) (d : Database)
    → ((q : Key) → aged_at moment (finite.get d q) ≡ true → finite.contains_key m q ≡ true)
    → keys_where (λ k x. aged_at moment (finite.get d k)) (finite.entries m) ≡ max_age_keys moment d
keys_aged moment m d has =
    keys_passing (λ k. aged_at moment (finite.get d k)) m d has
    (λ q. aged_there moment (finite.get d q))
    ∙ ap (map (λ (e : Key × DatabaseCopy). e.0))
    (filter_alike (λ (e : Key × DatabaseCopy). aged_at moment (finite.get d e.0))
    (λ e. is_aged_out moment e.1) (finite.entries d)
    (λ e among. ap (aged_at moment) (entry_found d e among)))
