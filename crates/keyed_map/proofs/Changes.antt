-- The value of a key before all edits.
use Rattle.std.proofs.Common.{◌≡◌, ℕ, zero, suc, ◌+◌, ◌<◌, ◌⊎◌, inl, inr, Bool, true, false, cond}
use Rattle.std.proofs.Common.{List, [], ◌∷◌, ◌++◌, length, Some, None, refl, sym, ap, subst, ◌∙◌}
use Rattle.std.proofs.Common.{arith}
use Rattle.std.specs.Prelude.{Option, slice_get, IsSome, IsTrue, not, ◌↔◌}
use Rattle.std.specs.BTreeMap.{is_at}
use Rattle.std.specs.Map.{lookup}
use Rattle.std.specs.Cmp.{Equal-is, tied_itself}
use Rattle.std.specs.Ordering.{eq_by_cmp, is_eq}
use Rattle.std.specs.FinMap as map
use Rattle.std.specs.List.{Contains}
use Rattle.std.specs.Option.{is_some}
use Rattle.std.proofs.lemmas.Bool.{cases_eq}
use Rattle.std.proofs.lemmas.List.Elements.{Contains-append_left, Contains-push_cases}
use Rattle.std.proofs.lemmas.Option.{same_Some, slice_get_within}
use Rattle.words.specs.declared.key.Key.{Key}
use Rattle.keyed_map.specs.declared.slot.KeySlot.{KeySlot}
use Rattle.keyed_map.specs.declared.slot.KeySlot.TheVariants.{Gone, Holds}
use Rattle.keyed_map.specs.declared.slot.Edit.{Edit}
use Rattle.keyed_map.specs.Changes.{IsFirst, held_before}
use Rattle.keyed_map.specs.Keys.{ByKey, key_cmp}
use Rattle.keyed_map.specs.Slots.{live, put_back, undone}
use Rattle.keyed_map.proofs.Keys.{keys_exact, keys_total}
use Rattle.keyed_map.proofs.Slots.{get-live, held_in}

pub same_key : (x y : Key) → eq_by_cmp key_cmp x y ≡ true → x ≡ y
same_key x y e = keys_exact x y ((Equal-is (key_cmp x y)).0 e)

itself : (k : Key) → eq_by_cmp key_cmp k k ≡ true
itself k = ap is_eq (tied_itself keys_total k)

pub another : (q k : Key) → eq_by_cmp key_cmp q k ≡ false → k ≡ q → ⊥
another q k other is = let both : true ≡ false =
    sym (itself q) ∙ ap (eq_by_cmp key_cmp q) (sym is) ∙ other in cc

-- an edit that is the first and the same, or isn't the first, is kept
pub kept_or_later : (same first : Bool) (S F : Type 0) → same ≡ false → IsTrue same ↔ S
    → IsTrue first ↔ F → (IsTrue (not first) → F → S) × ((F → S) → IsTrue (not first))
kept_or_later same true S F differs s f = (
  (λ t. absurd cc),
  (λ g. absurd (let no : true ≡ false = sym (s.1 (g (f.0 refl))) ∙ differs in cc)),
)
kept_or_later same false S F differs s f = (
  (λ t h. absurd (let no : false ≡ true = f.1 h in cc)),
  (λ g. refl),
)

module _ {X : Type 0} where
  pub held_same : (o : Option (KeySlot X)) → held_in o ≡ held_before o
  held_same None = refl
  held_same (Some Gone) = refl
  held_same (Some (Holds x)) = refl

  -- a value that was held was held in its slot
  pub holds_is : (o : Option (KeySlot X)) (x : X) → Some x ≡ held_before o → Some (Holds x) ≡ o
  holds_is None x is = absurd cc
  holds_is (Some Gone) x is = absurd cc
  holds_is (Some (Holds y)) x is = cc

  -- a key past the greatest has no value
  pub not_there : (o : Option (KeySlot X)) (b : Bool) → (IsSome o → b ≡ false) → b ≡ true
      → is_some (held_in o) ≡ false
  not_there None b f t = refl
  not_there (Some s) b f t = absurd (let no : true ≡ false = sym t ∙ f refl in cc)

  -- nor has a key without a slot
  pub none_there : (es : List (Key × KeySlot X)) (q : Key) → (0 < length es → ⊥)
      → is_some (held_in (lookup (is_at (key_cmp q)) es)) ≡ false
  none_there [] q empty = refl
  none_there (e ∷ es) q empty = absurd (empty (omega arith))

  -- whether the key was held
  pub was_there : (m : ByKey (KeySlot X)) (q : Key) (before : Option (KeySlot X))
      → before ≡ map.get m q → is_some (held_before before) ≡ map.contains_key (live m) q
  was_there m q before is = ap is_some (sym (held_same before) ∙ ap held_in is ∙ sym (get-live m q))

  get-put_back : (k : Key) (before : Option (KeySlot X)) (m : ByKey (KeySlot X)) (q : Key)
      → map.get (put_back k before m) q ≡ cond (eq_by_cmp key_cmp q k) before (map.get m q)
  get-put_back k None m q = map.get-remove keys_total m k q
  get-put_back k (Some s) m q = map.get-insert keys_total m k s q

  -- there is an edit at each index
  pub found_at : (es : List (Edit X)) (n : ℕ) → n < length es
      → (e : Edit X) × (slice_get es n ≡ Some e)
  found_at [] n low = absurd (omega (arith, low))
  found_at (e ∷ es) zero low = (e, refl)
  found_at (e ∷ es) (suc n) low = found_at es n (omega (arith, low))

  -- the slot of the key before its first edit
  pub record StoodAt (es : List (Edit X)) (q : Key) (before : Option (KeySlot X)) : Type 0 where
    pub edit : Edit X
    pub place : ℕ
    pub at : slice_get es place ≡ Some edit
    pub first : IsFirst es place q
    pub its : edit.key ≡ q
    pub is : before ≡ edit.before

  -- one more edit that isn't of the key
  pub first_still : (es : List (Edit X)) (n : ℕ) (q : Key) (edit : Edit X)
      → slice_get es n ≡ Some edit → (edit.key ≡ q → ⊥) → IsFirst es n q → IsFirst es (n + 1) q
  first_still es n q edit here other first k d low is its =
      elim (cases_eq k n) [
        | inl same ↦ other (ap (λ (x : Edit X). x.key)
            (same_Some edit d (sym here ∙ subst (λ i. slice_get es i ≡ Some d) same is)) ∙ its)
        | inr before ↦ first k d (omega (arith, low, before)) is its
      ]

  first_later : (e : Edit X) (es : List (Edit X)) (q : Key) (place : ℕ) → (e.key ≡ q → ⊥)
      → IsFirst es place q → IsFirst (e ∷ es) (suc place) q
  first_later e es q place other first zero d low is its =
      other (ap (λ (x : Edit X). x.key) (same_Some e d is) ∙ its)
  first_later e es q place other first (suc k) d low is its = first k d (omega (arith, low)) is its

  later : (e : Edit X) (es : List (Edit X)) (q : Key) (before : Option (KeySlot X))
      → (e.key ≡ q → ⊥) → StoodAt es q before → StoodAt (e ∷ es) q before
  later e es q before other s = record {
    edit = s.edit;
    place = suc s.place;
    at = s.at;
    first = first_later e es q s.place other s.first;
    its = s.its;
    is = s.is;
  }

  -- the slot before all edits is the present one, or the one before the first edit of the key
  pub before_edits : (es : List (Edit X)) (m : ByKey (KeySlot X)) (q : Key)
      → (map.get (undone es m) q ≡ map.get m q) ⊎ StoodAt es q (map.get (undone es m) q)
  before_edits [] m q = inl refl
  before_edits (e ∷ es) m q = by_key (eq_by_cmp key_cmp q e.key) refl (before_edits es m q)
    where
      by_key : (b : Bool) → eq_by_cmp key_cmp q e.key ≡ b
          → (map.get (undone es m) q ≡ map.get m q) ⊎ StoodAt es q (map.get (undone es m) q)
          → (map.get (undone (e ∷ es) m) q ≡ map.get m q)
          ⊎ StoodAt (e ∷ es) q (map.get (undone (e ∷ es) m) q)
      by_key true tied rest = inr (record {
        edit = e;
        place = 0;
        at = refl;
        first = λ k d low. absurd (omega (arith, low));
        its = sym (same_key q e.key tied);
        is = get-put_back e.key e.before (undone es m) q
            ∙ ap (λ b. cond b e.before (map.get (undone es m) q)) tied;
      })
      by_key false tied rest =
          let at : map.get (undone (e ∷ es) m) q ≡ map.get (undone es m) q =
          get-put_back e.key e.before (undone es m) q
          ∙ ap (λ b. cond b e.before (map.get (undone es m) q)) tied in
          elim rest [
            | inl same ↦ inl (at ∙ same)
            | inr stood ↦ inr (subst (StoodAt (e ∷ es) q) (sym at)
                (later e es q (map.get (undone es m) q) (another q e.key tied) stood))
          ]

  -- the first edit of a key has its slot before all edits
  pub first_found : (es : List (Edit X)) (m : ByKey (KeySlot X)) (place : ℕ) (edit : Edit X)
      → slice_get es place ≡ Some edit → IsFirst es place edit.key
      → map.get (undone es m) edit.key ≡ edit.before
  first_found [] m place edit at first = absurd cc
  first_found (e ∷ es) m zero edit at first =
      subst (λ (d : Edit X). map.get (undone (e ∷ es) m) d.key ≡ d.before) (same_Some e edit at)
      (get-put_back e.key e.before (undone es m) e.key
      ∙ ap (λ b. cond b e.before (map.get (undone es m) e.key)) (itself e.key))
  first_found (e ∷ es) m (suc place) edit at first =
      by_key (eq_by_cmp key_cmp edit.key e.key) refl
      (first_found es m place edit at
      (λ k d low is its. first (suc k) d (omega (arith, low)) is its))
    where
      by_key : (b : Bool) → eq_by_cmp key_cmp edit.key e.key ≡ b
          → map.get (undone es m) edit.key ≡ edit.before
          → map.get (undone (e ∷ es) m) edit.key ≡ edit.before
      by_key true tied rest = absurd (first 0 e (omega arith) refl
          (sym (same_key edit.key e.key tied)))
      by_key false tied rest =
          get-put_back e.key e.before (undone es m) edit.key
          ∙ ap (λ b. cond b e.before (map.get (undone es m) edit.key)) tied ∙ rest

  abbrev pub Keeps : (Key → Option X → Option X → Type 0) → ByKey X → Edit X → Type 0
  Keeps S now e = S e.key (held_before e.before) (map.get now e.key)

  -- each of the first `n` edits that is the first of its key
  abbrev pub AllKeep : (Key → Option X → Option X → Type 0) → ByKey X → List (Edit X) → ℕ → Type 0
  AllKeep S now es n = (place : ℕ) (e : Edit X) → place < n → slice_get es place ≡ Some e
      → IsFirst es place e.key → Keeps S now e

  pub one_more : (S : Key → Option X → Option X → Type 0) (now : ByKey X) (es : List (Edit X))
      (n : ℕ) (edit : Edit X) → slice_get es n ≡ Some edit
      → (IsFirst es n edit.key → Keeps S now edit) → AllKeep S now es n
      → AllKeep S now es (n + 1)
  one_more S now es n edit here keeps all place e low at first =
      elim (cases_eq place n) [
        | inl same ↦
            let is : edit ≡ e = same_Some edit e
            (sym here ∙ subst (λ i. slice_get es i ≡ Some e) same at) in
            subst (Keeps S now) is (keeps (subst (λ (d : Edit X). IsFirst es n d.key) (sym is)
            (subst (λ i. IsFirst es i e.key) same first)))
        | inr other ↦ all place e (omega (arith, low, other)) at first
      ]

  module _ (S : Key → Option X → Option X → Type 0) (itself : (k : Key) (o : Option X) → S k o o)
    where
      pub kept : (es : List (Edit X)) (m : ByKey (KeySlot X)) → AllKeep S (live m) es (length es)
          → (q : Key) → S q (map.get (live (undone es m)) q) (map.get (live m) q)
      kept es m all q =
          let then_ = get-live (undone es m) q in
          let now = get-live m q in
          elim (before_edits es m q) [
            | inl same ↦ subst (λ o. S q o (map.get (live m) q))
                (now ∙ sym (then_ ∙ ap held_in same))
                (itself q (map.get (live m) q))
            | inr stood ↦
                let P : Key → Type 0 = λ k. S k (held_before stood.edit.before) (map.get (live m) k)
                in
                let was : held_before stood.edit.before ≡ map.get (live (undone es m)) q =
                sym (then_ ∙ held_same (map.get (undone es m) q) ∙ ap held_before stood.is) in
                let one = all stood.place stood.edit
                (slice_get_within es stood.place stood.edit stood.at) stood.at
                (subst (IsFirst es stood.place) (sym stood.its) stood.first) in
                subst (λ o. S q o (map.get (live m) q)) was (subst P stood.its one)
          ]

  -- if all keys keep their values, so does the key of a first edit
  pub first_kept : (S : Key → Option X → Option X → Type 0) (es : List (Edit X))
      (m : ByKey (KeySlot X)) (place : ℕ) (edit : Edit X) → slice_get es place ≡ Some edit
      → IsFirst es place edit.key → ((q : Key)
      → S q (map.get (live (undone es m)) q) (map.get (live m) q)) → Keeps S (live m) edit
  first_kept S es m place edit at first all =
      let was : map.get (live (undone es m)) edit.key ≡ held_before edit.before =
      get-live (undone es m) edit.key ∙ ap held_in (first_found es m place edit at first)
      ∙ held_same edit.before in
      subst (λ o. S edit.key o (map.get (live m) edit.key)) was (all edit.key)

  -- the slot in the first edit of a key is the committed one
  pub first_committed : (es : List (Edit X)) (m : ByKey (KeySlot X)) (place : ℕ) (edit : Edit X)
      (q : Key) → slice_get es place ≡ Some edit → edit.key ≡ q → IsFirst es place q
      → held_before edit.before ≡ map.get (live (undone es m)) q
  first_committed es m place edit q at its first =
      let found = first_found es m place edit at (subst (IsFirst es place) (sym its) first) in
      sym (get-live (undone es m) edit.key ∙ ap held_in found ∙ held_same edit.before)
      ∙ ap (map.get (live (undone es m))) its

  -- the value of a key without an edit is the committed one
  pub unedited : (es : List (Edit X)) (m : ByKey (KeySlot X)) (q : Key) → IsFirst es (length es) q
      → map.get (live m) q ≡ map.get (live (undone es m)) q
  unedited es m q none =
      elim (before_edits es m q) [
        | inl same ↦ get-live m q ∙ sym (get-live (undone es m) q ∙ ap held_in same)
        | inr stood ↦ absurd (none stood.place stood.edit
            (slice_get_within es stood.place stood.edit stood.at) stood.at stood.its)
      ]

  -- the same, except for the keys of a list
  abbrev pub Outside : List Key → (Key → Option X → Option X → Type 0) → Key → Option X → Option X
      → Type 0
  Outside keys S key before now = (Contains keys key → ⊥) → S key before now

  -- the same for one key
  abbrev pub JustAt : Key → (Key → Option X → Option X → Type 0) → Key → Option X → Option X
      → Type 0
  JustAt q S key before now = key ≡ q → S key before now

  -- each of these keys has another value
  abbrev pub Differ : (Key → Option X → Option X → Type 0) → ByKey X → ByKey X → List Key → Type 0
  Differ S committed present keys =
      (key : Key) → Contains keys key → S key (map.get committed key) (map.get present key) → ⊥

  -- more keys in the list leave fewer to be kept
  pub still_outside : (S : Key → Option X → Option X → Type 0) (now : ByKey X) (es : List (Edit X))
      (n : ℕ) (keys more : List Key) → AllKeep (Outside keys S) now es n
      → AllKeep (Outside (keys ++ more) S) now es n
  still_outside S now es n keys more all place e low at first none =
      all place e low at first (λ t. none (Contains-append_left keys more e.key t))

  -- one more key that has another value
  pub one_differs : (S : Key → Option X → Option X → Type 0) (committed present : ByKey X)
      (keys : List Key) (q : Key) → Differ S committed present keys
      → (S q (map.get committed q) (map.get present q) → ⊥)
      → Differ S committed present (keys ++ q ∷ [])
  one_differs S committed present keys q all one key t =
      elim (Contains-push_cases keys q key t) [
        | inl old ↦ all key old
        | inr is ↦ let P : Key → Type 0 = λ k. S k (map.get committed k) (map.get present k) → ⊥ in
            subst P is one
      ]

  -- if a key has the same value, so has its first edit
  pub kept_there : (S : Key → Option X → Option X → Type 0) (es : List (Edit X))
      (m : ByKey (KeySlot X)) (place : ℕ) (edit : Edit X) → slice_get es place ≡ Some edit
      → IsFirst es place edit.key → S edit.key (map.get (live (undone es m)) edit.key)
      (map.get (live m) edit.key) → Keeps S (live m) edit
  kept_there S es m place edit at first same =
      first_kept (JustAt edit.key S) es m place edit at first
      (λ q is. let P : Key → Type 0 =
      λ k. S k (map.get (live (undone es m)) k) (map.get (live m) k) in
      subst P (sym is) same) refl
