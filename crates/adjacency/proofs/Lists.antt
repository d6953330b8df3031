-- Lists that are filled from the database, and lists without their first entries.
use Rattle.std.proofs.Common.{◌≡◌, ℕ, zero, suc, ◌+◌, ◌<◌, T, Bool, true, false, cond, ◌||◌}
use Rattle.std.proofs.Common.{List, [], ◌∷◌, ◌++◌, map, length, take, drop, get_or, Option, None}
use Rattle.std.proofs.Common.{Some, is_some, refl, sym, ap, ◌∙◌, arith}
use Rattle.std.proofs.lemmas.List.{take_more}
use Rattle.std.proofs.lemmas.List.Elements.{filter_map-append}
use Rattle.std.specs.List.{AllByRecursion, cons_option, filter, filter_map, fold, list_any}
use Rattle.std.specs.FinMap as finite
use Rattle.std.specs.FinMap.Entries.{below_all, is_sorted}
use Rattle.std.specs.Ordering.{eq_by_cmp}
use Rattle.words.specs.declared.key.Key.{Key}
use Rattle.lsdb.specs.Copies.{Database, DatabaseCopy, list_entry_of}
use Rattle.lsdb.specs.Instances.{ListEntry, listed_header_now}
use Rattle.lsdb.specs.Keys.{ByKey, key_cmp}
use Rattle.lsdb.proofs.Keys.{absent, equal, first, keys_exact, keys_total, second}
use Rattle.adjacency.specs.Descriptions.{listed_where}
use Rattle.adjacency.specs.Exchanges.{entry_header, with_copy, with_key}
use Rattle.adjacency.proofs.Maps.{IfThere, OfEntry, entries_in}

-- ---- lists without their first keys

module _ {X : Type 0} where
  -- without the first key
  left_first : (e : Key × X) (es : List (Key × X)) → T (is_sorted key_cmp (e ∷ es))
      → finite.remove (finite.from_entries {R = key_cmp} (e ∷ es)) e.0 ≡ finite.from_entries es
  left_first e es sorted =
      finite.same_map keys_total keys_exact _ _ (λ q.
      finite.get-remove keys_total (finite.from_entries {R = key_cmp} (e ∷ es)) e.0 q
      ∙ ap (cond (eq_by_cmp key_cmp q e.0) None) (finite.get-from_entries keys_total (e ∷ es) q)
      ∙ by_key q (eq_by_cmp key_cmp q e.0) refl
      ∙ sym (finite.get-from_entries keys_total es q))
    where
      by_key : (q : Key) (b : Bool) → eq_by_cmp key_cmp q e.0 ≡ b
          → cond b None (cond b (Some e.1) (finite.find key_cmp q es)) ≡ finite.find key_cmp q es
      by_key q true tied = sym (absent q e.0 es (equal (key_cmp q e.0) tied)
          (first (below_all key_cmp e.0 es) (is_sorted key_cmp es) sorted))
      by_key q false tied = refl

  left_from : (n : ℕ) (es : List (Key × X)) (m : ByKey X) → T (is_sorted key_cmp es)
      → m ≡ finite.from_entries es → fold finite.remove m (take n (map (λ e. e.0) es))
      ≡ finite.from_entries (drop n es)
  left_from zero es m sorted is = is
  left_from (suc n) [] m sorted is = is
  left_from (suc n) (e ∷ es) m sorted is =
      left_from n es (finite.remove m e.0)
      (second (below_all key_cmp e.0 es) (is_sorted key_cmp es) sorted)
      (ap (λ a. finite.remove a e.0) is ∙ left_first e es sorted)

  of_its_entries : (m : ByKey X) → m ≡ finite.from_entries (finite.entries m)
  of_its_entries m = finite.same_map keys_total keys_exact _ _
      (λ q. finite.get-entries m q ∙ sym (finite.get-from_entries keys_total (finite.entries m) q))

  -- without the first keys
  pub left_without : (n : ℕ) (m : ByKey X)
      → fold finite.remove m (take n (finite.keys m))
      ≡ finite.from_entries (drop n (finite.entries m))
  left_without n m = left_from n (finite.entries m) m (finite.entries_sorted m) (of_its_entries m)

  drop_all : (es : List (Key × X)) (n : ℕ) → n ≡ length es → drop n es ≡ []
  drop_all [] zero is = refl
  drop_all [] (suc n) is = refl
  drop_all (e ∷ es) zero is = absurd (omega (arith, is))
  drop_all (e ∷ es) (suc n) is = drop_all es n (omega (arith, is))

  -- without all keys
  pub left_none : (n : ℕ) (m : ByKey X) → n ≡ finite.len m
      → fold finite.remove m (take n (finite.keys m)) ≡ finite.empty
  left_none n m is = left_without n m
      ∙ ap finite.from_entries (drop_all (finite.entries m) n (is ∙ finite.len-entries m))

  -- ---- the values of the first keys

  found_itself : (m : ByKey X) → AllByRecursion (OfEntry (λ k x. finite.get m k ≡ Some x))
      (finite.entries m)
  found_itself m = entries_in (λ k x. finite.get m k ≡ Some x) m
      (λ key. there key (finite.get m key) refl)
    where
      there : (key : Key) (o : Option X) → finite.get m key ≡ o
          → IfThere (λ k x. finite.get m k ≡ Some x) key o
      there key None is = tt
      there key (Some x) is = is

module _ (moment : ℕ) (m : ByKey ListEntry) where
  headers_from : (n : ℕ) (es : List (Key × ListEntry))
      → AllByRecursion (OfEntry (λ k x. finite.get m k ≡ Some x)) es
      → filter_map (λ (key : Key). entry_header moment (finite.get m key))
      (take n (map (λ e. e.0) es)) ≡ map (λ (e : Key × ListEntry). listed_header_now moment e.1)
      (take n es)
  headers_from zero es all = refl
  headers_from (suc n) [] all = refl
  headers_from (suc n) (e ∷ es) all =
      ap (λ o. cons_option (entry_header moment o)
      (filter_map (λ (key : Key). entry_header moment (finite.get m key))
      (take n (map (λ f. f.0) es)))) all.0
      ∙ ap (λ hs. listed_header_now moment e.1 ∷ hs) (headers_from n es all.1)

  -- the headers of the first keys
  pub headers_first : (n : ℕ) → filter_map (λ (key : Key). entry_header moment (finite.get m key))
      (take n (finite.keys m)) ≡ map (λ (e : Key × ListEntry). listed_header_now moment e.1)
      (take n (finite.entries m))
  headers_first n = headers_from n (finite.entries m) (found_itself m)

pub one_more_header : (moment : ℕ) (m : ByKey ListEntry) (keys : List Key) (i : ℕ) (k : Key)
    → i < length keys → filter_map (λ (key : Key). entry_header moment (finite.get m key))
    (take i keys) ++ filter_map (λ (key : Key). entry_header moment (finite.get m key))
    (get_or keys i k ∷ [])
    ≡ filter_map (λ (key : Key). entry_header moment (finite.get m key)) (take (i + 1) keys)
one_more_header moment m keys i k lt =
    sym (filter_map-append (λ (key : Key). entry_header moment (finite.get m key)) (take i keys)
    (get_or keys i k ∷ []))
    ∙ ap (filter_map (λ (key : Key). entry_header moment (finite.get m key)))
    (sym (take_more keys i k lt))

-- ---- the copies of the database

module _ (test : DatabaseCopy → Bool) (moment : ℕ) (db : Database) where
  -- the list entry of a copy
  abbrev of_copy : Option DatabaseCopy → Option ListEntry
  of_copy None = None
  of_copy (Some c) = cond (test c) (Some (list_entry_of moment c)) None

  abbrev or_else : Option ListEntry → Option ListEntry → Option ListEntry
  or_else None o = o
  or_else (Some x) o = Some x

  entered : (list : ByKey ListEntry) (key q : Key) (c : DatabaseCopy) (b : Bool)
      → finite.get (cond b (finite.insert list key (list_entry_of moment c)) list) q
      ≡ cond (eq_by_cmp key_cmp q key)
      (or_else (cond b (Some (list_entry_of moment c)) None) (finite.get list q))
      (finite.get list q)
  entered list key q c true = finite.get-insert keys_total list key (list_entry_of moment c) q
  entered list key q c false = sym (either_way (eq_by_cmp key_cmp q key) (finite.get list q))
    where
      either_way : (a : Bool) (o : Option ListEntry) → cond a o o ≡ o
      either_way true o = refl
      either_way false o = refl

  get-with : (list : ByKey ListEntry) (key q : Key) (o : Option DatabaseCopy)
      → finite.get (with_copy test moment key o list) q
      ≡ cond (eq_by_cmp key_cmp q key) (or_else (of_copy o) (finite.get list q))
      (finite.get list q)
  get-with list key q None = sym (either_way (eq_by_cmp key_cmp q key) (finite.get list q))
    where
      either_way : (a : Bool) (o : Option ListEntry) → cond a o o ≡ o
      either_way true o = refl
      either_way false o = refl
  get-with list key q (Some c) = entered list key q c (test c)

  twice : (a : Bool) (x y : Option ListEntry)
      → cond a (or_else x (or_else x y)) (or_else x y) ≡ or_else x y
  twice true None y = refl
  twice true (Some x) y = refl
  twice false x y = refl

  get-filled : (keys : List Key) (list : ByKey ListEntry) (q : Key)
      → finite.get (fold (with_key test moment db) list keys) q
      ≡ cond (list_any (eq_by_cmp key_cmp q) keys)
      (or_else (of_copy (finite.get db q)) (finite.get list q)) (finite.get list q)
  get-filled [] list q = refl
  get-filled (k ∷ ks) list q =
      get-filled ks (with_key test moment db list k) q
      ∙ ap (λ o. cond (list_any (eq_by_cmp key_cmp q) ks) (or_else (of_copy (finite.get db q)) o) o)
      (get-with list k q (finite.get db k))
      ∙ by_key (eq_by_cmp key_cmp q k) refl
    where
      by_key : (b : Bool) → eq_by_cmp key_cmp q k ≡ b
          → cond (list_any (eq_by_cmp key_cmp q) ks)
          (or_else (of_copy (finite.get db q))
          (cond b (or_else (of_copy (finite.get db k)) (finite.get list q))
          (finite.get list q))) (cond b
          (or_else (of_copy (finite.get db k)) (finite.get list q))
          (finite.get list q))
          ≡ cond (b || list_any (eq_by_cmp key_cmp q) ks)
          (or_else (of_copy (finite.get db q)) (finite.get list q)) (finite.get list q)
      by_key true tied =
          ap (λ (x : Key). cond (list_any (eq_by_cmp key_cmp q) ks)
          (or_else (of_copy (finite.get db q))
          (or_else (of_copy (finite.get db x)) (finite.get list q)))
          (or_else (of_copy (finite.get db x)) (finite.get list q)))
          (sym (keys_exact q k (equal (key_cmp q k) tied)))
          ∙ twice (list_any (eq_by_cmp key_cmp q) ks) (of_copy (finite.get db q))
          (finite.get list q)
      by_key false tied = refl

  listed-find : (es : List (Key × DatabaseCopy)) (q : Key) → T (is_sorted key_cmp es)
      → finite.find key_cmp q (map (λ (e : Key × DatabaseCopy). (e.0, list_entry_of moment e.1))
      (filter (λ e. test e.1) es)) ≡ of_copy (finite.find key_cmp q es)
  listed-find [] q sorted = refl
  listed-find (e ∷ es) q sorted =
      by_tests (listed-find es q (second (below_all key_cmp e.0 es) (is_sorted key_cmp es) sorted))
      (test e.1) (eq_by_cmp key_cmp q e.0) refl refl
    where
      none_behind : eq_by_cmp key_cmp q e.0 ≡ true → finite.find key_cmp q es ≡ None
      none_behind tied = absent q e.0 es (equal (key_cmp q e.0) tied)
          (first (below_all key_cmp e.0 es) (is_sorted key_cmp es) sorted)

      by_tests : finite.find key_cmp q
          (map (λ (f : Key × DatabaseCopy). (f.0, list_entry_of moment f.1))
          (filter (λ f. test f.1) es)) ≡ of_copy (finite.find key_cmp q es) → (b r : Bool)
          → test e.1 ≡ b → eq_by_cmp key_cmp q e.0 ≡ r
          → finite.find key_cmp q (map
          (λ (f : Key × DatabaseCopy). (f.0, list_entry_of moment f.1))
          (cond b (e ∷ filter (λ f. test f.1) es) (filter (λ f. test f.1) es)))
          ≡ of_copy (cond r (Some e.1) (finite.find key_cmp q es))
      by_tests behind true true is tied =
          ap (λ b. cond b (Some (list_entry_of moment e.1))
          (finite.find key_cmp q (map (λ (f : Key × DatabaseCopy).
          (f.0, list_entry_of moment f.1)) (filter (λ f. test f.1) es)))) tied
          ∙ sym (ap (λ b. cond b (Some (list_entry_of moment e.1)) None) is)
      by_tests behind true false is tied =
          ap (λ b. cond b (Some (list_entry_of moment e.1))
          (finite.find key_cmp q (map (λ (f : Key × DatabaseCopy).
          (f.0, list_entry_of moment f.1)) (filter (λ f. test f.1) es)))) tied ∙ behind
      by_tests behind false true is tied =
          behind ∙ ap of_copy (none_behind tied)
          ∙ sym (ap (λ b. cond b (Some (list_entry_of moment e.1)) None) is)
      by_tests behind false false is tied = behind

  if_there : (o : Option DatabaseCopy)
      → cond (is_some o) (or_else (of_copy o) None) None ≡ of_copy o
  if_there None = refl
  if_there (Some c) = or_none (of_copy (Some c))
    where
      or_none : (x : Option ListEntry) → or_else x None ≡ x
      or_none None = refl
      or_none (Some x) = refl

  -- the keys of the database, added in turn to an empty list
  pub filled_where : fold (with_key test moment db) finite.empty (finite.keys db)
      ≡ listed_where test moment db
  filled_where =
      finite.same_map keys_total keys_exact _ _ (λ q.
      get-filled (finite.keys db) finite.empty q
      ∙ (λ i. cond (sym (finite.contains_key-keys db q) i)
      (or_else (of_copy (finite.get db q)) (finite.get-empty {X = ListEntry} key_cmp q i))
      (finite.get-empty {X = ListEntry} key_cmp q i))
      ∙ if_there (finite.get db q)
      ∙ ap of_copy (finite.get-entries db q)
      ∙ sym (listed-find (finite.entries db) q (finite.entries_sorted db))
      ∙ sym (finite.get-from_entries keys_total
      (map (λ (e : Key × DatabaseCopy). (e.0, list_entry_of moment e.1))
      (filter (λ e. test e.1) (finite.entries db))) q))
