-- Slots in the order of their keys: the live entries keep the order.
use Rattle.std.proofs.Common.{cond, Some, None, ◌≡◌, ℕ, zero, suc, ◌≤◌, arith, length}
use Rattle.std.proofs.Common.{take, Bool, true, false, T, List, [], ◌∷◌, ◌++◌, map, ◌&&◌, refl, sym}
use Rattle.std.proofs.Common.{ap, subst, ◌∙◌}
use Rattle.std.specs.List.{AllByRecursion, filter}
use Rattle.std.specs.List.Sorted.{IsStrictlySortedBy}
use Rattle.std.specs.declared.cmp.Ordering.TheVariants.{Less, Equal}
use Rattle.std.specs.declared.ops.Bound.TheVariants.{Included, Unbounded}
use Rattle.std.specs.BTreeMap.Range.{entries_between}
use Rattle.std.specs.Ordering.{eq_by_cmp, is_eq, is_le, is_lt}
use Rattle.std.specs.FinMap as finite
use Rattle.std.specs.FinMap.Entries.{below_all}
use Rattle.std.specs.Map.{keys_of}
use Rattle.words.specs.declared.key.Key.{Key}
use Rattle.keyed_map.specs.declared.slot.KeySlot.{KeySlot}
use Rattle.keyed_map.specs.declared.slot.KeySlot.TheVariants.{Gone, Holds}
use Rattle.std.specs.Prelude.{Option}
use Rattle.keyed_map.specs.Keys.{ByKey}
use Rattle.keyed_map.specs.Keys.{key_cmp}
use Rattle.keyed_map.specs.Slots.{holds, kept, keys_from, live, slots_of}
use Rattle.keyed_map.proofs.Keys.{keys_exact, keys_total}
use Rattle.keyed_map.proofs.Slots.{live-empty, slots-empty}
use Rattle.keyed_map.proofs.Tests.{equal, first, less, second}

both : (a b : Bool) → T a → T b → T (a && b)
both true b p q = q
both false b p q = p

module _ {Y : Type 0} where
  below_from : (x : Key) (es : List (Key × Y))
      → AllByRecursion (λ y. key_cmp x y ≡ Less) (keys_of es) → T (below_all key_cmp x es)
  below_from x [] all = tt
  below_from x (e ∷ es) all = both _ _ (subst (λ r. T (is_lt r)) (sym all.0) tt)
      (below_from x es all.1)

  sorted_from : (es : List (Key × Y)) → IsStrictlySortedBy key_cmp (keys_of es)
      → T (finite.is_sorted key_cmp es)
  unfolding IsStrictlySortedBy
  sorted_from [] all = tt
  sorted_from (e ∷ es) all = both _ _ (below_from e.0 es all.0) (sorted_from es all.1)

  pub entries_of : (es : List (Key × Y)) → T (finite.is_sorted key_cmp es)
      → finite.entries (finite.from_entries {R = key_cmp} es) ≡ es
  entries_of es sorted =
      ap finite.entries (finite.same_map keys_total keys_exact
      (finite.from_entries {R = key_cmp} es) (finite.from_sorted es)
      (λ q. finite.get-from_entries keys_total es q
      ∙ sym (finite.get-from_sorted key_cmp es q sorted)))
      ∙ finite.entries-from_sorted key_cmp es sorted

module _ {X : Type 0} where
  below_kept : (x : Key) (es : List (Key × KeySlot X)) → T (below_all key_cmp x es)
      → T (below_all key_cmp x (kept es))
  below_kept x [] all = tt
  below_kept x ((k, Gone) ∷ es) all = below_kept x es (second _ _ all)
  below_kept x ((k, Holds y) ∷ es) all = both _ _ (first _ _ all) (below_kept x es (second _ _ all))

  sorted_kept : (es : List (Key × KeySlot X)) → T (finite.is_sorted key_cmp es)
      → T (finite.is_sorted key_cmp (kept es))
  sorted_kept [] sorted = tt
  sorted_kept ((k, Gone) ∷ es) sorted = sorted_kept es (second _ _ sorted)
  sorted_kept ((k, Holds y) ∷ es) sorted =
      both _ _ (below_kept k es (first _ _ sorted)) (sorted_kept es (second _ _ sorted))

  -- the live entries, in order
  pub live_entries : (es : List (Key × KeySlot X)) → IsStrictlySortedBy key_cmp (keys_of es)
      → finite.entries (live (slots_of es)) ≡ kept es
  unfolding live slots_of
  live_entries es ordered =
      let sorted = sorted_from es ordered in
      ap (λ fs. finite.entries (finite.from_entries {R = key_cmp} (kept fs))) (entries_of es sorted)
      ∙ entries_of (kept es) (sorted_kept es sorted)

  kept_held : (es : List (Key × KeySlot X)) → kept (filter (λ e. holds e.1) es) ≡ kept es
  kept_held [] = refl
  kept_held ((k, Gone) ∷ es) = kept_held es
  kept_held ((k, Holds x) ∷ es) = ap (λ fs. (k, x) ∷ fs) (kept_held es)

  -- empty slots may be left out
  pub live_held : (es fs : List (Key × KeySlot X)) → IsStrictlySortedBy key_cmp (keys_of es)
      → IsStrictlySortedBy key_cmp (keys_of fs) → fs ≡ filter (λ e. holds e.1) es
      → live (slots_of fs) ≡ live (slots_of es)
  live_held es fs ordered still is =
      finite.same_entries_map _ _ (live_entries fs still ∙ ap kept is ∙ kept_held es
      ∙ sym (live_entries es ordered))

  -- and all of them if no key is left
  pub live_none : (es fs : List (Key × KeySlot X)) → finite.len (live (slots_of es)) ≡ 0 → fs ≡ []
      → live (slots_of fs) ≡ live (slots_of es)
  live_none es fs none is = ap live (slots-empty fs is) ∙ live-empty
      ∙ sym (finite.empty_of_len (live (slots_of es)) none)

  length-kept : (es : List (Key × KeySlot X)) → length (kept es) ≤ length es
  length-kept [] = omega arith
  length-kept ((k, Gone) ∷ es) = omega (arith, length-kept es)
  length-kept ((k, Holds x) ∷ es) = omega (arith, length-kept es)

  -- there are no more keys than slots
  pub len_live : (es : List (Key × KeySlot X)) → IsStrictlySortedBy key_cmp (keys_of es)
      → finite.len (live (slots_of es)) ≤ length es
  len_live es ordered = omega (
    arith,
    finite.len-entries (live (slots_of es)),
    ap length (live_entries es ordered),
    length-kept es,
  )

  -- one more slot was visited
  abbrev pub key_in : Key × KeySlot X → List Key
  key_in (k, Gone) = []
  key_in (k, Holds x) = k ∷ []

  pub kept_keys : (e : Key × KeySlot X) (es : List (Key × KeySlot X))
      → map (λ f. f.0) (kept (e ∷ es)) ≡ key_in e ++ map (λ f. f.0) (kept es)
  kept_keys (k, Gone) es = refl
  kept_keys (k, Holds x) es = refl

  from_gone : (b : Bool) (k : Key) (es : List (Key × KeySlot X))
      → map (λ e. e.0) (kept (cond (b && true) ((k, Gone) ∷ es) es)) ≡ map (λ e. e.0) (kept es)
  from_gone true k es = refl
  from_gone false k es = refl

  from_holds : (b : Bool) (k : Key) (x : X) (es : List (Key × KeySlot X))
      → map (λ e. e.0) (kept (cond (b && true) ((k, Holds x) ∷ es) es))
      ≡ cond b (k ∷ map (λ e. e.0) (kept es)) (map (λ e. e.0) (kept es))
  from_holds true k x es = refl
  from_holds false k x es = refl

  -- the live entries from a key on
  pub kept_from : (key : Key) (es : List (Key × KeySlot X))
      → map (λ e. e.0) (kept (entries_between key_cmp (Included key) Unbounded es))
      ≡ keys_from key (map (λ e. e.0) (kept es))
  kept_from key [] = refl
  kept_from key ((k, Gone) ∷ es) = from_gone (is_le (key_cmp key k)) k
      (entries_between key_cmp (Included key) Unbounded es) ∙ kept_from key es
  kept_from key ((k, Holds x) ∷ es) =
      from_holds (is_le (key_cmp key k)) k x (entries_between key_cmp (Included key) Unbounded es)
      ∙ ap (λ ks. cond (is_le (key_cmp key k)) (k ∷ ks) ks) (kept_from key es)

-- all keys, if none is left
pub cut_all : (ks : List Key) (n : ℕ) → length ks ≤ n → take n (ks ++ []) ≡ ks
cut_all [] zero le = refl
cut_all [] (suc n) le = refl
cut_all (k ∷ ks) zero le = absurd (omega (arith, le))
cut_all (k ∷ ks) (suc n) le = ap (λ l. k ∷ l) (cut_all ks n (omega (arith, le)))

module _ {X : Type 0} where
  -- the entries, inserted in turn
  abbrev pub filled : ByKey X → List (Key × X) → ByKey X
  filled m [] = m
  filled m (e ∷ es) = filled (finite.insert m e.0 e.1) es

  abbrev or_else : Option X → Option X → Option X
  or_else None o = o
  or_else (Some x) o = Some x

  none_past : (q k : Key) (es : List (Key × X)) → key_cmp q k ≡ Equal → T (below_all key_cmp k es)
      → finite.find key_cmp q es ≡ None
  none_past q k [] same all = refl
  none_past q k (e ∷ es) same all =
      ap (λ r. cond (is_eq r) (Some e.1) (finite.find key_cmp q es))
      (keys_total.congr q k e.0 same ∙ less _ (first _ _ all))
      ∙ none_past q k es same (second _ _ all)

  get-filled : (es : List (Key × X)) (m : ByKey X) (q : Key) → T (finite.is_sorted key_cmp es)
      → finite.get (filled m es) q ≡ or_else (finite.find key_cmp q es) (finite.get m q)
  get-filled [] m q sorted = refl
  get-filled (e ∷ es) m q sorted =
      get-filled es (finite.insert m e.0 e.1) q (second _ _ sorted)
      ∙ ap (or_else (finite.find key_cmp q es)) (finite.get-insert keys_total m e.0 e.1 q)
      ∙ by_key (eq_by_cmp key_cmp q e.0) refl
    where
      by_key : (b : Bool) → eq_by_cmp key_cmp q e.0 ≡ b
          → or_else (finite.find key_cmp q es) (cond b (Some e.1) (finite.get m q))
          ≡ or_else (cond b (Some e.1) (finite.find key_cmp q es)) (finite.get m q)
      by_key true tied = ap (λ o. or_else o (Some e.1))
          (none_past q e.0 es (equal _ tied) (first _ _ sorted))
      by_key false tied = refl

  or_none : (o : Option X) → or_else o None ≡ o
  or_none None = refl
  or_none (Some x) = refl

  -- the live entries, inserted in turn into an empty map
  pub filled_live : (es : List (Key × KeySlot X)) → IsStrictlySortedBy key_cmp (keys_of es)
      → filled finite.empty (kept es) ≡ live (slots_of es)
  filled_live es ordered =
      let sorted = sorted_kept es (sorted_from es ordered) in
      finite.same_map keys_total keys_exact _ _ (λ q.
      get-filled (kept es) finite.empty q sorted
      ∙ ap (or_else (finite.find key_cmp q (kept es))) (finite.get-empty key_cmp q) ∙ or_none _
      ∙ ap (finite.find key_cmp q) (sym (live_entries es ordered))
      ∙ sym (finite.get-entries (live (slots_of es)) q))
