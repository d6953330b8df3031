-- Maps by key, and their entries in key order: the values of one key after another are changed,
-- among the first entries and among the rest, and in a list that is filled from the database.
use Rattle.std.proofs.Common.{◌≡◌, ℕ, zero, suc, Bool, true, false, cond, ◌⊎◌, inl, inr, List, []}
use Rattle.std.proofs.Common.{◌∷◌, map, take, drop, Option, None, Some, refl, sym, ap, ◌∙◌}
use Rattle.std.specs.FinMap as finite
use Rattle.std.specs.List.{Contains, filter}
use Rattle.std.specs.Ordering.{eq_by_cmp}
use Rattle.words.specs.declared.key.Key.{Key}
use Rattle.lsdb.specs.Copies.{Database, DatabaseCopy, list_entry_of}
use Rattle.lsdb.specs.Headers.{Header}
use Rattle.lsdb.specs.Instances.{ListEntry, listed_header_now}
use Rattle.lsdb.specs.Keys.{ByKey, key_cmp, same_key}
use Rattle.lsdb.proofs.Keys.{keys_total}
use Rattle.adjacency.specs.Descriptions.{listed_where}
use Rattle.invariants.proofs.Lists.{later_is}
use Rattle.invariants.proofs.Taken.{named_first}

pub some_same : {X : Type 0} {x y : X} → Some x ≡ Some y → x ≡ y
some_same e = cc

-- ---- one key

unless_gone : {X : Type 0} (b : Bool) (o : Option X) (x : X) → cond b None o ≡ Some x → o ≡ Some x
unless_gone true o x e = absurd cc
unless_gone false o x e = e

-- what is left after a removal was there before
pub left_there : {X : Type 0} (m : ByKey X) (k key : Key) (x : X)
    → finite.get (finite.remove m k) key ≡ Some x → finite.get m key ≡ Some x
left_there m k key x e = unless_gone (same_key key k) (finite.get m key) x
    (sym (finite.get-remove keys_total m k key) ∙ e)

put_by : {X : Type 0} (b : Bool) (y : X) (o : Option X) (x : X) → cond b (Some y) o ≡ Some x
    → ((b ≡ true) × (y ≡ x)) ⊎ (o ≡ Some x)
put_by true y o x e = inl (refl, some_same e)
put_by false y o x e = inr e

-- a value was set, or was there before
pub put_there : {X : Type 0} (m : ByKey X) (k key : Key) (y x : X)
    → finite.get (finite.insert m k y) key ≡ Some x → ((same_key key k ≡ true) × (y ≡ x))
    ⊎ (finite.get m key ≡ Some x)
put_there m k key y x e = put_by (same_key key k) y (finite.get m key) x
    (sym (finite.get-insert keys_total m k y key) ∙ e)

-- ---- the first entries and the rest

module _ (key : Key) (moment : ℕ) (entry : ListEntry) where
  abbrev headers : List (Key × ListEntry) → List Header
  headers es = map (λ (e : Key × ListEntry). listed_header_now moment e.1) es

  split : (n : ℕ) (es : List (Key × ListEntry)) → finite.find key_cmp key es ≡ Some entry
      → (finite.find key_cmp key (drop n es) ≡ Some entry)
      ⊎ Contains (headers (take n es)) (listed_header_now moment entry)
  split zero es at = inl at
  split (suc n) [] at = absurd cc
  split (suc n) (e ∷ es) at = by_key (λ k. split n es k) (eq_by_cmp key_cmp key e.0) at
    where
      later : (finite.find key_cmp key (drop n es) ≡ Some entry)
          ⊎ Contains (headers (take n es)) (listed_header_now moment entry)
          → (finite.find key_cmp key (drop n es) ≡ Some entry)
          ⊎ Contains (headers (e ∷ take n es)) (listed_header_now moment entry)
      later (inl k) = inl k
      later (inr c) = inr (later_is (listed_header_now moment e.1) (headers (take n es))
          (listed_header_now moment entry) c)

      by_key : (finite.find key_cmp key es ≡ Some entry
          → (finite.find key_cmp key (drop n es) ≡ Some entry)
          ⊎ Contains (headers (take n es)) (listed_header_now moment entry)) → (b : Bool)
          → cond b (Some e.1) (finite.find key_cmp key es) ≡ Some entry
          → (finite.find key_cmp key (drop n es) ≡ Some entry)
          ⊎ Contains (headers (e ∷ take n es)) (listed_header_now moment entry)
      by_key rest true is = inr (named_first (listed_header_now moment e.1) (headers (take n es))
          (listed_header_now moment entry) (ap (listed_header_now moment) (some_same is)))
      by_key rest false is = later (rest is)

  -- an entry of a list is among the rest, or its header is among the first
  pub left_or_taken : (n : ℕ) (m : ByKey ListEntry) → finite.get m key ≡ Some entry
      → (finite.get (finite.from_entries {R = key_cmp} (drop n (finite.entries m))) key
      ≡ Some entry) ⊎ Contains (headers (take n (finite.entries m)))
      (listed_header_now moment entry)
  left_or_taken n m at = by_place (split n (finite.entries m) (sym (finite.get-entries m key) ∙ at))
    where
      by_place : (finite.find key_cmp key (drop n (finite.entries m)) ≡ Some entry)
          ⊎ Contains (headers (take n (finite.entries m))) (listed_header_now moment entry)
          → (finite.get (finite.from_entries {R = key_cmp} (drop n (finite.entries m))) key
          ≡ Some entry) ⊎ Contains (headers (take n (finite.entries m)))
          (listed_header_now moment entry)
      by_place (inl k) = inl (finite.get-from_entries keys_total (drop n (finite.entries m)) key
          ∙ k)
      by_place (inr c) = inr c

-- ---- the entries of a list that is filled

module _ (test : DatabaseCopy → Bool) (moment : ℕ) (key : Key) (copy : DatabaseCopy)
    (is : test copy ≡ true) where
  abbrev listed : List (Key × DatabaseCopy) → List (Key × ListEntry)
  listed es = map (λ (e : Key × DatabaseCopy). (e.0, list_entry_of moment e.1))
      (filter (λ e. test e.1) es)

  filled : (es : List (Key × DatabaseCopy)) → finite.find key_cmp key es ≡ Some copy
      → finite.find key_cmp key (listed es) ≡ Some (list_entry_of moment copy)
  filled [] at = absurd cc
  filled (e ∷ es) at = by_tests (λ k. filled es k) (eq_by_cmp key_cmp key e.0) (test e.1) refl refl
      at
    where
      by_tests : (finite.find key_cmp key es ≡ Some copy → finite.find key_cmp key (listed es)
          ≡ Some (list_entry_of moment copy)) → (b p : Bool) → eq_by_cmp key_cmp key e.0 ≡ b
          → test e.1 ≡ p → cond b (Some e.1) (finite.find key_cmp key es) ≡ Some copy
          → finite.find key_cmp key (map
          (λ (f : Key × DatabaseCopy). (f.0, list_entry_of moment f.1))
          (cond p (e ∷ filter (λ f. test f.1) es) (filter (λ f. test f.1) es)))
          ≡ Some (list_entry_of moment copy)
      by_tests rest true true tied passes found =
          ap (λ b. cond b (Some (list_entry_of moment e.1)) (finite.find key_cmp key (listed es)))
          tied ∙ ap (λ (c : DatabaseCopy). Some (list_entry_of moment c)) (some_same found)
      by_tests rest true false tied passes found =
          let no : true ≡ false = sym is ∙ ap test (sym (some_same found)) ∙ passes in absurd cc
      by_tests rest false true tied passes found =
          ap (λ b. cond b (Some (list_entry_of moment e.1)) (finite.find key_cmp key (listed es)))
          tied ∙ rest found
      by_tests rest false false tied passes found = rest found

  -- a copy that passes the test is on the list
  pub is_listed : (db : Database) → finite.get db key ≡ Some copy
      → finite.get (listed_where test moment db) key ≡ Some (list_entry_of moment copy)
  is_listed db at =
      finite.get-from_entries keys_total (listed (finite.entries db)) key
      ∙ filled (finite.entries db) (sym (finite.get-entries db key) ∙ at)
