-- The keys that two maps have in common, in order.
use Rattle.std.proofs.Common.{◌≡◌, Bool, true, false, cond, ◌&&◌, ◌||◌, T, List, [], ◌∷◌, map, refl}
use Rattle.std.proofs.Common.{sym, ap, subst, ◌∙◌}
use Rattle.std.proofs.Math.Bool.{and_comm}
use Rattle.std.proofs.lemmas.Map.Views.{any-filter_same}
use Rattle.std.specs.Prelude.{Option, None, Some, is_some}
use Rattle.std.specs.Cmp.{Equal-is}
use Rattle.std.specs.List.{filter, list_any}
use Rattle.std.specs.Ordering.{eq_by_cmp, is_lt}
use Rattle.std.specs.FinMap as finite
use Rattle.std.specs.FinMap.Entries as entries
use Rattle.std.specs.FinSet as set
use Rattle.words.specs.declared.key.Key.{Key}
use Rattle.keyed_map.specs.Slots.{keys_where}
use Rattle.lsdb.specs.Keys.{ByKey, key_cmp}
use Rattle.lsdb.proofs.Keys.{keys_exact, keys_total}
use Rattle.adjacency.specs.Views.{keys_of}
use Rattle.adjacency.proofs.Neighbors.{contains_key_of}

-- keys with no values
abbrev units : List Key → List (Key × Unit {0})
units ks = map (λ k. (k, tt)) ks

abbrev names : {X : Type 0} → List (Key × X) → List Key
names es = map (λ e. e.0) es

below_units : {X : Type 0} (k : Key) (es : List (Key × X))
    → entries.below_all key_cmp k (units (names es)) ≡ entries.below_all key_cmp k es
below_units k [] = refl
below_units k (e ∷ es) = ap (λ b. is_lt (key_cmp k e.0) && b) (below_units k es)

sorted_units : {X : Type 0} (es : List (Key × X))
    → entries.is_sorted key_cmp (units (names es)) ≡ entries.is_sorted key_cmp es
sorted_units [] = refl
sorted_units (e ∷ es) = λ i. below_units e.0 es i && sorted_units es i

abbrev marked : Bool → Option (Unit {0})
marked b = cond b (Some tt) None

found_or : (b c : Bool) → cond b (Some tt) (marked c) ≡ marked (b || c)
found_or true c = refl
found_or false c = refl

found : (q : Key) (ks : List Key) → entries.find key_cmp q (units ks)
    ≡ marked (list_any (eq_by_cmp key_cmp q) ks)
found q [] = refl
found q (k ∷ ks) = ap (cond (eq_by_cmp key_cmp q k) (Some tt)) (found q ks)
    ∙ found_or (eq_by_cmp key_cmp q k) (list_any (eq_by_cmp key_cmp q) ks)

unit_names : (ks : List Key) → names (units ks) ≡ ks
unit_names [] = refl
unit_names (k ∷ ks) = ap (λ l. k ∷ l) (unit_names ks)

-- sorted entries with the same keys have them in the same order
same_names : {X Y : Type 0} (es : List (Key × X)) (fs : List (Key × Y))
    → T (entries.is_sorted key_cmp es) → T (entries.is_sorted key_cmp fs)
    → ((q : Key) → list_any (eq_by_cmp key_cmp q) (names es)
    ≡ list_any (eq_by_cmp key_cmp q) (names fs)) → names es ≡ names fs
same_names es fs sorted_es sorted_fs same =
    let left : T (entries.is_sorted key_cmp (units (names es))) =
    subst T (sym (sorted_units es)) sorted_es in
    let right : T (entries.is_sorted key_cmp (units (names fs))) =
    subst T (sym (sorted_units fs)) sorted_fs in
    let is = finite.same_map keys_total keys_exact (finite.from_sorted (units (names es)))
    (finite.from_sorted (units (names fs))) (λ q.
    finite.get-from_sorted key_cmp (units (names es)) q left ∙ found q (names es)
    ∙ ap marked (same q)
    ∙ sym (finite.get-from_sorted key_cmp (units (names fs)) q right ∙ found q (names fs))) in
    sym (unit_names (names es)) ∙ sym
    (ap names (finite.entries-from_sorted key_cmp (units (names es)) left))
    ∙ ap (λ m. names (finite.entries m)) is
    ∙ ap names (finite.entries-from_sorted key_cmp (units (names fs)) right) ∙ unit_names (names fs)

name_where : {X : Type 0} (p : Key → Bool) (b : Bool) (e : Key × X) (es : List (Key × X))
    → names (cond b (e ∷ es) es) ≡ cond b (e.0 ∷ names es) (names es)
name_where p true e es = refl
name_where p false e es = refl

names_where : {X : Type 0} (p : Key → Bool) (es : List (Key × X))
    → names (entries.where_key key_cmp p es) ≡ filter p (names es)
names_where p [] = refl
names_where p (e ∷ es) =
    name_where p (p e.0) e (entries.where_key key_cmp p es)
    ∙ ap (λ ks. cond (p e.0) (e.0 ∷ ks) ks) (names_where p es)

module _ {X Y : Type 0} (a : ByKey X) (b : ByKey Y) where
  both : (q : Key) → list_any (eq_by_cmp key_cmp q) (filter (finite.contains_key b) (finite.keys a))
      ≡ (finite.contains_key b q && finite.contains_key a q)
  both q =
      any-filter_same (eq_by_cmp key_cmp q) (finite.contains_key b) (finite.contains_key b q)
      (λ k same. ap is_some (finite.get_tied keys_total b q k ((Equal-is (key_cmp q k)).0 same)))
      (finite.keys a)
      ∙ ap (λ t. finite.contains_key b q && t) (sym (finite.contains_key-keys a q))

module _ {X Y : Type 0} (a : ByKey X) (b : ByKey Y) where
  -- the common keys, from either map
  pub from_either : filter (finite.contains_key b) (finite.keys a)
      ≡ filter (finite.contains_key a) (finite.keys b)
  from_either =
      sym (names_where (finite.contains_key b) (finite.entries a))
      ∙ same_names (entries.where_key key_cmp (finite.contains_key b) (finite.entries a))
      (entries.where_key key_cmp (finite.contains_key a) (finite.entries b))
      (entries.is_sorted-where_key key_cmp (finite.contains_key b) (finite.entries a)
      (finite.entries_sorted a))
      (entries.is_sorted-where_key key_cmp (finite.contains_key a) (finite.entries b)
      (finite.entries_sorted b))
      (λ q. ap (list_any (eq_by_cmp key_cmp q))
      (names_where (finite.contains_key b) (finite.entries a)) ∙ both a b q
      ∙ and_comm (finite.contains_key b q) (finite.contains_key a q)
      ∙ sym (both b a q) ∙ ap (list_any (eq_by_cmp key_cmp q))
      (sym (names_where (finite.contains_key a) (finite.entries b))))
      ∙ names_where (finite.contains_key a) (finite.entries b)

  same_filter : (p r : Key → Bool) → ((k : Key) → p k ≡ r k) → (ks : List Key)
      → filter p ks ≡ filter r ks
  same_filter p r same [] = refl
  same_filter p r same (k ∷ ks) = λ i. cond (same k i) (k ∷ same_filter p r same ks i)
      (same_filter p r same ks i)

  -- the keys of one map that the other has
  pub kept_in_both : keys_where (λ k x. finite.contains_key b k) (finite.entries a)
      ≡ filter (set.contains (keys_of a)) (finite.keys b)
  kept_in_both =
      names_where (finite.contains_key b) (finite.entries a) ∙ from_either
      ∙ same_filter (finite.contains_key a) (set.contains (keys_of a))
      (λ k. sym (contains_key_of a k)) (finite.keys b)
