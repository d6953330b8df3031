-- The slots after an edit, and after it is undone.
use Rattle.std.proofs.Common.{◌≡◌, Bool, true, false, cond, T, List, [], ◌∷◌, ◌++◌, Some, None}
use Rattle.std.proofs.Common.{IsSome, refl, sym, ap, subst, ◌∙◌}
use Rattle.std.specs.Prelude.{Option}
use Rattle.std.specs.declared.cmp.Ordering.TheVariants.{Equal}
use Rattle.std.specs.Ordering.{eq_by_cmp, is_eq}
use Rattle.std.specs.Cmp.{eq_by_cmp_equiv, tied_itself}
use Rattle.std.specs.FinMap as map
use Rattle.std.specs.FinMap.Entries.{below_all}
use Rattle.std.specs.BTreeMap.{is_at}
use Rattle.std.specs.Map.{lookup}
use Rattle.words.specs.declared.key.Key.{Key}
use Rattle.keyed_map.specs.declared.slot.KeySlot.{KeySlot}
use Rattle.keyed_map.specs.declared.slot.KeySlot.TheVariants.{Gone, Holds}
use Rattle.keyed_map.specs.declared.slot.Edit.{Edit}
use Rattle.keyed_map.specs.Keys.{ByKey}
use Rattle.keyed_map.specs.Keys.{key_cmp}
use Rattle.keyed_map.specs.Slots.{AllFit, Fits, HasPlace, count_after_change, holds, kept, live}
use Rattle.keyed_map.specs.Slots.{put_back, put_live, slots_of, undo, undone}
use Rattle.keyed_map.proofs.Keys.{keys_exact, keys_total}
use Rattle.keyed_map.proofs.Tests.{equal, first, less, second}

abbrev pub held_in : {X : Type 0} → Option (KeySlot X) → Option X
held_in None = None
held_in (Some Gone) = None
held_in (Some (Holds x)) = Some x

symmetric : (k q : Key) → eq_by_cmp key_cmp k q ≡ eq_by_cmp key_cmp q k
symmetric k q = (eq_by_cmp_equiv keys_total).symm k q

spread : {X : Type 0} (b : Bool) (s : KeySlot X) (o : Option (KeySlot X))
    → held_in (cond b (Some s) o) ≡ cond b (held_in (Some s)) (held_in o)
spread true s o = refl
spread false s o = refl

same : {Y : Type 0} (m n : ByKey Y) → ((q : Key) → map.get m q ≡ map.get n q) → m ≡ n
same = map.same_map keys_total keys_exact

module _ {X : Type 0} where
  lookup_is : (q : Key) (es : List (Key × KeySlot X))
      → lookup (is_at (key_cmp q)) es ≡ map.find key_cmp q es
  lookup_is q [] = refl
  lookup_is q (e ∷ es) = ap (cond (eq_by_cmp key_cmp q e.0) (Some e.1)) (lookup_is q es)

  pub get-slots : (es : List (Key × KeySlot X)) (q : Key)
      → map.get (slots_of es) q ≡ lookup (is_at (key_cmp q)) es
  unfolding slots_of
  get-slots es q = map.get-from_entries keys_total es q ∙ sym (lookup_is q es)

  none_past : (q k : Key) (es : List (Key × KeySlot X)) → key_cmp q k ≡ Equal
      → T (below_all key_cmp k es) → map.find key_cmp q es ≡ None
  none_past q k [] same all = refl
  none_past q k (e ∷ es) same all =
      ap (λ r. cond (is_eq r) (Some e.1) (map.find key_cmp q es))
      (keys_total.congr q k e.0 same ∙ less _ (first _ _ all))
      ∙ none_past q k es same (second _ _ all)

  find-kept : (q : Key) (es : List (Key × KeySlot X)) → T (map.is_sorted key_cmp es)
      → map.find key_cmp q (kept es) ≡ held_in (map.find key_cmp q es)
  find-kept q [] sorted = refl
  find-kept q ((k, Gone) ∷ es) sorted =
      elim (eq_by_cmp key_cmp q k) as (λ b. eq_by_cmp key_cmp q k ≡ b
      → map.find key_cmp q (kept es) ≡ held_in (cond b (Some Gone) (map.find key_cmp q es))) [
        | true ↦ λ is. find-kept q es (second _ _ sorted)
            ∙ ap held_in (none_past q k es (equal _ is) (first _ _ sorted))
        | false ↦ λ is. find-kept q es (second _ _ sorted)
      ] refl
  find-kept q ((k, Holds x) ∷ es) sorted =
      elim (eq_by_cmp key_cmp q k) as (λ b. cond b (Some x) (map.find key_cmp q (kept es))
      ≡ held_in (cond b (Some (Holds x)) (map.find key_cmp q es))) [
        | true ↦ refl
        | false ↦ find-kept q es (second _ _ sorted)
      ]

  pub get-live : (m : ByKey (KeySlot X)) (q : Key) → map.get (live m) q ≡ held_in (map.get m q)
  unfolding live
  get-live m q = map.get-from_entries keys_total _ q
      ∙ find-kept q (map.entries m) (map.entries_sorted m) ∙ ap held_in (sym (map.get-entries m q))

  pub slots_insert : (es fs : List (Key × KeySlot X)) (k : Key) (s : KeySlot X)
      → ((q : Key) → lookup (is_at (key_cmp q)) fs
      ≡ cond (is_at (key_cmp k) q) (Some s) (lookup (is_at (key_cmp q)) es))
      → slots_of fs ≡ map.insert (slots_of es) k s
  slots_insert es fs k s is = same _ _ (λ q.
      get-slots fs q ∙ is q ∙ ap (cond (is_at (key_cmp k) q) (Some s)) (sym (get-slots es q))
      ∙ ap (λ b. cond b (Some s) (map.get (slots_of es) q)) (symmetric k q)
      ∙ sym (map.get-insert keys_total (slots_of es) k s q))

  pub slots_remove : (es fs : List (Key × KeySlot X)) (k : Key)
      → ((q : Key) → lookup (is_at (key_cmp q)) fs
      ≡ cond (is_at (key_cmp k) q) None (lookup (is_at (key_cmp q)) es))
      → slots_of fs ≡ map.remove (slots_of es) k
  slots_remove es fs k is = same _ _ (λ q.
      get-slots fs q ∙ is q ∙ ap (cond (is_at (key_cmp k) q) None) (sym (get-slots es q))
      ∙ ap (λ b. cond b None (map.get (slots_of es) q)) (symmetric k q)
      ∙ sym (map.get-remove keys_total (slots_of es) k q))

  pub live_put : (m : ByKey (KeySlot X)) (k : Key) (s : KeySlot X)
      → live (map.insert m k s) ≡ put_live (live m) k s
  live_put m k Gone = same _ _ (λ q. get-live _ q
      ∙ ap held_in (map.get-insert keys_total m k Gone q)
      ∙ spread (eq_by_cmp key_cmp q k) Gone (map.get m q)
      ∙ ap (cond (eq_by_cmp key_cmp q k) None) (sym (get-live m q))
      ∙ sym (map.get-remove keys_total (live m) k q))
  live_put m k (Holds x) = same _ _
      (λ q. get-live _ q ∙ ap held_in (map.get-insert keys_total m k (Holds x) q)
      ∙ spread (eq_by_cmp key_cmp q k) (Holds x) (map.get m q)
      ∙ ap (cond (eq_by_cmp key_cmp q k) (Some x)) (sym (get-live m q))
      ∙ sym (map.get-insert keys_total (live m) k x q))

  pub len_put : (m : ByKey X) (k : Key) (s : KeySlot X)
      → map.len (put_live m k s) ≡ count_after_change (map.contains_key m k) (holds s) (map.len m)
  len_put m k Gone = map.len-remove keys_total m k
  len_put m k (Holds x) = map.len-insert keys_total m k x

  pub live-empty : live (map.empty {X = KeySlot X}) ≡ map.empty
  live-empty = same _ _ (λ q. get-live map.empty q ∙ ap held_in (map.get-empty key_cmp q)
      ∙ sym (map.get-empty key_cmp q))

  pub slots-empty : (es : List (Key × KeySlot X)) → es ≡ [] → slots_of es ≡ map.empty
  unfolding slots_of
  slots-empty es is = ap map.from_entries is

  -- removing an absent key changes nothing
  pub absent : (m : ByKey X) (k : Key) → map.get m k ≡ None → m ≡ map.remove m k
  absent m k is = same _ _ (λ q. missing q (eq_by_cmp key_cmp q k) refl
      ∙ sym (map.get-remove keys_total m k q))
    where
      missing : (q : Key) (b : Bool) → eq_by_cmp key_cmp q k ≡ b
          → map.get m q ≡ cond b None (map.get m q)
      missing q true tied = ap (map.get m) (keys_exact q k (equal _ tied)) ∙ is
      missing q false tied = refl

  -- setting a slot to its value changes nothing
  pub same_again : (m : ByKey (KeySlot X)) (k : Key) (s : KeySlot X) → map.get m k ≡ Some s
      → map.insert m k s ≡ m
  same_again m k s is = same _ _ (λ q. map.get-insert keys_total m k s q
      ∙ stands q (eq_by_cmp key_cmp q k) refl)
    where
      stands : (q : Key) (b : Bool) → eq_by_cmp key_cmp q k ≡ b
          → cond b (Some s) (map.get m q) ≡ map.get m q
      stands q true tied = sym is ∙ ap (map.get m) (sym (keys_exact q k (equal _ tied)))
      stands q false tied = refl

  -- the slot of the key is restored
  pub put_back_is : (m : ByKey (KeySlot X)) (k : Key) (s : KeySlot X) (before : Option (KeySlot X))
      → before ≡ map.get m k → put_back k before (map.insert m k s) ≡ m
  put_back_is m k s None is = same _ _
      (λ q. map.get-remove keys_total _ k q
      ∙ ap (cond (eq_by_cmp key_cmp q k) None) (map.get-insert keys_total m k s q)
      ∙ committed_at q (eq_by_cmp key_cmp q k) refl)
    where
      committed_at : (q : Key) (b : Bool) → eq_by_cmp key_cmp q k ≡ b
          → cond b None (cond b (Some s) (map.get m q)) ≡ map.get m q
      committed_at q true tied = is ∙ ap (map.get m) (sym (keys_exact q k (equal _ tied)))
      committed_at q false tied = refl
  put_back_is m k s (Some t) is = same _ _
      (λ q. map.get-insert keys_total _ k t q
      ∙ ap (cond (eq_by_cmp key_cmp q k) (Some t)) (map.get-insert keys_total m k s q)
      ∙ committed_at q (eq_by_cmp key_cmp q k) refl)
    where
      committed_at : (q : Key) (b : Bool) → eq_by_cmp key_cmp q k ≡ b
          → cond b (Some t) (cond b (Some s) (map.get m q)) ≡ map.get m q
      committed_at q true tied = is ∙ ap (map.get m) (sym (keys_exact q k (equal _ tied)))
      committed_at q false tied = refl

  pub has_place : (m : ByKey (KeySlot X)) (k : Key) (s : KeySlot X) (before : Option (KeySlot X))
      → HasPlace k before (map.insert m k s)
  has_place m k s None = tt
  has_place m k s (Some t) = subst IsSome
      (sym (map.get-insert keys_total m k s k
      ∙ ap (λ r. cond (is_eq r) (Some s) (map.get m k)) (tied_itself keys_total k))) refl

  pub undone-push : (es : List (Edit X)) (e : Edit X) (m n : ByKey (KeySlot X)) → undo e n ≡ m
      → undone (es ++ e ∷ []) n ≡ undone es m
  undone-push [] e m n is = is
  undone-push (d ∷ ds) e m n is = ap (undo d) (undone-push ds e m n is)

  pub AllFit-push : (es : List (Edit X)) (e : Edit X) (m n : ByKey (KeySlot X)) → undo e n ≡ m
      → Fits e n → AllFit es m → AllFit (es ++ e ∷ []) n
  AllFit-push [] e m n is fits all = (fits, tt)
  AllFit-push (d ∷ ds) e m n is fits all =
      (subst (Fits d) (sym (undone-push ds e m n is)) all.0, AllFit-push ds e m n is fits all.1)

  -- the last edit is undone
  pub popped : (es : List (Edit X)) (e : Edit X) (n : ByKey (KeySlot X)) → AllFit (es ++ e ∷ []) n
      → Fits e n × AllFit es (undo e n)
  popped [] e n all = (all.0, tt)
  popped (d ∷ ds) e n all =
      let rest = popped ds e n all.1 in
      (rest.0, (subst (Fits d) (undone-push ds e (undo e n) n refl) all.0, rest.1))
