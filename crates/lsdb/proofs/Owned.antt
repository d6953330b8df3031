-- The number of keys of self-originated AS-external-LSAs in a map after an edit.
use Rattle.std.proofs.Common.{◌≡◌, ℕ, ◌+◌, ◌-◌, ◌≤◌, Bool, true, false, cond, not, nat_lt, List, []}
use Rattle.std.proofs.Common.{◌∷◌, Some, None, ◌&&◌, ◌||◌, length, map, refl, sym, ap, ◌∙◌, arith}
use Rattle.std.specs.Prelude.{Option, is_some}
use Rattle.std.specs.declared.cmp.Ordering.TheVariants.{Equal}
use Rattle.keyed_map.specs.Slots.{count_after_change}
use Rattle.std.specs.List.{filter}
use Rattle.std.specs.FinMap as finite
use Rattle.std.specs.FinMap.Entries.{find-where_key, is_sorted-where_key, where_key}
use Rattle.std.specs.Ordering.{eq_by_cmp}
use Rattle.words.specs.declared.key.Key.{Key}
use Rattle.lsdb.specs.Copies.{Database}
use Rattle.lsdb.specs.Keys.{ByKey, key_cmp}
use Rattle.lsdb.specs.Limits.{count_own_externals, exceeds, has_room, is_own_external}
use Rattle.lsdb.specs.Limits.{own_externals}
use Rattle.lsdb.proofs.Empty.{retained_none}
use Rattle.lsdb.proofs.Keys.{keys_exact, keys_total, same, tied}

and_true : (c : Bool) → (c && true) ≡ c
and_true true = refl
and_true false = refl

apart : (c b : Bool) (m n : ℕ) → cond (c && b) m n ≡ cond b (cond c m n) n
apart true true m n = refl
apart true false m n = refl
apart false true m n = refl
apart false false m n = refl

still : (b : Bool) (n : ℕ) → cond b n n ≡ n
still true n = refl
still false n = refl

alike : (p : Key → Bool) (q x : Key) → key_cmp q x ≡ Equal → p x ≡ p q
alike p q x e = ap p (sym (keys_exact q x e))

module _ {X : Type 0} (p : Key → Bool) where
  get-kept : (m : ByKey X) (q : Key)
      → finite.get (finite.retain_keys m p) q ≡ cond (p q) (finite.get m q) None
  get-kept m q = finite.get-retain_keys m p q (alike p q)

  -- the entries that are left, as a list
  pub entries_kept : (m : ByKey X) → finite.entries (finite.retain_keys m p)
      ≡ where_key key_cmp p (finite.entries m)
  entries_kept m =
      let es = where_key key_cmp p (finite.entries m) in
      let sorted = is_sorted-where_key key_cmp p (finite.entries m) (finite.entries_sorted m) in
      let is : finite.retain_keys m p ≡ finite.from_sorted {R = key_cmp} es =
      same _ _ (λ q. get-kept m q ∙ ap (λ o. cond (p q) o None) (finite.get-entries m q)
      ∙ sym (finite.get-from_sorted key_cmp es q sorted
      ∙ find-where_key key_cmp p q (alike p q) (finite.entries m))) in
      ap finite.entries is ∙ finite.entries-from_sorted key_cmp es sorted

  put_among : (e r : Bool) (x : X) (g : Option X) → (e ≡ true → r ≡ true)
      → cond r (cond e (Some x) g) None ≡ cond e (Some x) (cond r g None)
  put_among true r x g is = ap (λ b. cond b (Some x) None) (is refl)
  put_among false r x g is = refl

  put_beside : (e r : Bool) (x : X) (g : Option X) → (e ≡ true → r ≡ false)
      → cond r (cond e (Some x) g) None ≡ cond r g None
  put_beside true r x g is = ap (λ b. cond b (Some x) None) (is refl)
      ∙ sym (ap (λ b. cond b g None) (is refl))
  put_beside false r x g is = refl

  taken_among : (e r : Bool) (g : Option X)
      → cond r (cond e None g) None ≡ cond e None (cond r g None)
  taken_among true true g = refl
  taken_among true false g = refl
  taken_among false r g = refl

  -- an entry that passes is added to those that are kept, another isn't
  put_kept : (m : ByKey X) (k : Key) (x : X) (b : Bool) → p k ≡ b
      → finite.retain_keys (finite.insert m k x) p
      ≡ cond b (finite.insert (finite.retain_keys m p) k x) (finite.retain_keys m p)
  put_kept m k x true is = same _ _ (λ q.
      get-kept (finite.insert m k x) q
      ∙ ap (λ o. cond (p q) o None) (finite.get-insert keys_total m k x q)
      ∙ put_among (eq_by_cmp key_cmp q k) (p q) x (finite.get m q) (λ e. ap p (tied q k e) ∙ is)
      ∙ ap (cond (eq_by_cmp key_cmp q k) (Some x)) (sym (get-kept m q))
      ∙ sym (finite.get-insert keys_total (finite.retain_keys m p) k x q))
  put_kept m k x false is = same _ _ (λ q.
      get-kept (finite.insert m k x) q
      ∙ ap (λ o. cond (p q) o None) (finite.get-insert keys_total m k x q)
      ∙ put_beside (eq_by_cmp key_cmp q k) (p q) x (finite.get m q) (λ e. ap p (tied q k e) ∙ is)
      ∙ sym (get-kept m q))

  remove_kept : (m : ByKey X) (k : Key)
      → finite.retain_keys (finite.remove m k) p ≡ finite.remove (finite.retain_keys m p) k
  remove_kept m k = same _ _ (λ q.
      get-kept (finite.remove m k) q
      ∙ ap (λ o. cond (p q) o None) (finite.get-remove keys_total m k q)
      ∙ taken_among (eq_by_cmp key_cmp q k) (p q) (finite.get m q)
      ∙ ap (cond (eq_by_cmp key_cmp q k) None) (sym (get-kept m q))
      ∙ sym (finite.get-remove keys_total (finite.retain_keys m p) k q))

  some_kept : (r : Bool) (o : Option X) → is_some (cond r o None) ≡ (is_some o && r)
  some_kept true None = refl
  some_kept true (Some x) = refl
  some_kept false None = refl
  some_kept false (Some x) = refl

  pub contains_kept : (m : ByKey X) (k : Key)
      → finite.contains_key (finite.retain_keys m p) k ≡ (finite.contains_key m k && p k)
  contains_kept m k = ap is_some (get-kept m k) ∙ some_kept (p k) (finite.get m k)

  len_put_kept : (m : ByKey X) (k : Key) (x : X) (b : Bool) → p k ≡ b
      → finite.len (cond b (finite.insert (finite.retain_keys m p) k x) (finite.retain_keys m p))
      ≡ cond b (count_after_change (finite.contains_key m k) true
      (finite.len (finite.retain_keys m p))) (finite.len (finite.retain_keys m p))
  len_put_kept m k x true is =
      finite.len-insert keys_total (finite.retain_keys m p) k x
      ∙ ap (λ c. cond c (finite.len (finite.retain_keys m p))
      (finite.len (finite.retain_keys m p) + 1))
      (contains_kept m k ∙ ap (λ b. finite.contains_key m k && b) is
      ∙ and_true (finite.contains_key m k))
  len_put_kept m k x false is = refl

  pub count_put : (m : ByKey X) (k : Key) (x : X)
      → finite.len (finite.retain_keys (finite.insert m k x) p)
      ≡ cond (p k) (count_after_change (finite.contains_key m k) true
      (finite.len (finite.retain_keys m p))) (finite.len (finite.retain_keys m p))
  count_put m k x = ap finite.len (put_kept m k x (p k) refl) ∙ len_put_kept m k x (p k) refl

  -- another value of a key that the map has changes no number
  pub count_change : (m : ByKey X) (k : Key) (x : X) → finite.contains_key m k ≡ true
      → finite.len (finite.retain_keys (finite.insert m k x) p)
      ≡ finite.len (finite.retain_keys m p)
  count_change m k x there =
      let n = finite.len (finite.retain_keys m p) in
      count_put m k x ∙ ap (λ c. cond (p k) (count_after_change c true n) n) there ∙ still (p k) n

  pub count_remove : (m : ByKey X) (k : Key)
      → finite.len (finite.retain_keys (finite.remove m k) p)
      ≡ cond (p k) (count_after_change (finite.contains_key m k) false
      (finite.len (finite.retain_keys m p))) (finite.len (finite.retain_keys m p))
  count_remove m k =
      ap finite.len (remove_kept m k) ∙ finite.len-remove keys_total (finite.retain_keys m p) k
      ∙ ap (λ c. cond c (finite.len (finite.retain_keys m p) - 1)
      (finite.len (finite.retain_keys m p))) (contains_kept m k)
      ∙ apart (finite.contains_key m k) (p k) (finite.len (finite.retain_keys m p) - 1)
      (finite.len (finite.retain_keys m p))

  length_chosen : (b : Bool) (e : Key × X) (es fs : List (Key × X)) → length es ≤ length fs
      → length (cond b (e ∷ es) es) ≤ length (e ∷ fs)
  length_chosen true e es fs le = omega (arith, le)
  length_chosen false e es fs le = omega (arith, le)

  fewer : (es : List (Key × X)) → length (where_key key_cmp p es) ≤ length es
  fewer [] = omega arith
  fewer (e ∷ es) = length_chosen (p e.0) e (where_key key_cmp p es) es (fewer es)

  pub count_most : (m : ByKey X) → finite.len (finite.retain_keys m p) ≤ finite.len m
  count_most m =
      omega (
        arith,
        finite.len-entries (finite.retain_keys m p),
        ap length (entries_kept m),
        fewer (finite.entries m),
        finite.len-entries m,
      )

  keys_chosen : (b : Bool) (e : Key × X) (ks : List Key) (es : List (Key × X))
      → length ks ≡ length es → length (cond b (e.0 ∷ ks) ks) ≡ length (cond b (e ∷ es) es)
  keys_chosen true e ks es is = omega (arith, is)
  keys_chosen false e ks es is = is

  keys_where_key : (es : List (Key × X))
      → length (filter p (map (λ e. e.0) es)) ≡ length (where_key key_cmp p es)
  keys_where_key [] = refl
  keys_where_key (e ∷ es) = keys_chosen (p e.0) e (filter p (map (λ f. f.0) es))
      (where_key key_cmp p es) (keys_where_key es)

  pub count_keys : (m : ByKey X) → length (filter p (finite.keys m))
      ≡ finite.len (finite.retain_keys m p)
  count_keys m = keys_where_key (finite.entries m)
      ∙ sym (finite.len-entries (finite.retain_keys m p) ∙ ap length (entries_kept m))

pub count_empty : (X : Type 0) (p : Key → Bool)
    → finite.len (finite.retain_keys (finite.empty {X = X} {R = key_cmp}) p) ≡ 0
count_empty X p = ap finite.len (retained_none p) ∙ finite.len-empty key_cmp X

-- they are the self-originated AS-external-LSAs of the database
pub own_counted : (router : ℕ) (d : Database)
    → count_own_externals router d ≡ own_externals router d
own_counted router d = sym (count_keys (is_own_external router) d)

-- the number changes only with the keys of self-originated AS-external-LSAs
pub counts_if_own : (own there holds : Bool) (n : ℕ)
    → cond own (count_after_change there holds n) n
    ≡ cond own (count_after_change (cond own there false) holds n) n
counts_if_own true there holds n = refl
counts_if_own false there holds n = refl

-- ---- one of two values, as it is computed

pub either_true : (a b : Bool) → a ≡ true → a ≡ (a || b)
either_true a b is = is ∙ sym (ap (λ c. c || b) is)

pub either_false : (a b : Bool) → a ≡ false → b ≡ (a || b)
either_false a b is = sym (ap (λ c. c || b) is)

module _ (c l o x : Bool) (new : c ≡ false) where
  pub room_full : l ≡ false → l ≡ (c || (l && (o || x)))
  room_full full = sym ((λ i. new i || (full i && (o || x))) ∙ sym full)

  pub room_free : l ≡ true → o ≡ true → o ≡ (c || (l && (o || x)))
  room_free free other = either_true o x other ∙ sym (λ i. new i || (free i && (o || x)))

  pub room_own : l ≡ true → o ≡ false → x ≡ (c || (l && (o || x)))
  room_own free own = either_false o x own ∙ sym (λ i. new i || (free i && (o || x)))

module _ (router : ℕ) (d : Database) (n e : ℕ)
    (number : n ≡ finite.len d) (externals : e ≡ count_own_externals router d) where
  pub exceeds_counted : (nat_lt 16384 n || nat_lt 4096 e) ≡ exceeds router d
  exceeds_counted =
      let own = externals ∙ own_counted router d in
      λ i. nat_lt 16384 (number i) || nat_lt 4096 (own i)

  pub room_counted : (k : Key) (c o : Bool) → c ≡ finite.contains_key d k
      → o ≡ is_own_external router k → (c || (nat_lt n 16384 && (not o || nat_lt e 4096)))
      ≡ has_room router k d
  room_counted k c o there is =
      let own = externals ∙ own_counted router d in
      λ i. there i || (nat_lt (number i) 16384 && (not (is i) || nat_lt (own i) 4096))
