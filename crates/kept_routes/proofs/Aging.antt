-- Copies that are unchanged say the same, unless one has reached MaxAge since.
use Rattle.std.proofs.Common.{◌≡◌, ℕ, ◌+◌, ◌-◌, ◌≤◌, ◌<◌, Bool, true, false, cond, List, [], ◌∷◌}
use Rattle.std.proofs.Common.{length, get_or, map, min, inl, inr, Option, None, Some, eq-eqb}
use Rattle.std.proofs.Common.{eqb-true, arith, refl, sym, ◌∙◌, ap, subst}
use Rattle.std.specs.Prelude.{◌==◌}
use Rattle.std.specs.FinMap as finite
use Rattle.std.specs.Cmp.{Equal-is}
use Rattle.std.specs.List.{Contains, filter}
use Rattle.std.specs.Ordering.{eq_by_cmp}
use Rattle.std.proofs.lemmas.Bool.{cases_eq}
use mathlib.Core.Bool.{false≢true}
use Rattle.keyed_map.specs.Keys.{key_cmp}
use Rattle.keyed_map.proofs.Keys.{keys_exact}
use Rattle.lsdb.specs.Changes.{HaveNoMaxAge, HaveSameStoredAge, IsUpTo, ContentsAgree}
use Rattle.lsdb.specs.Copies.{Database, DatabaseCopy, max_age_keys, is_aged_out}
use Rattle.routes.specs.Contents.{contents_at, contents_of}
use Rattle.kept_routes.specs.Ages.{HaveNotJustAgedOut}
use Rattle.kept_routes.specs.Sameness.{AreLsasUnchanged, HaveSameContents}
use Rattle.routes.proofs.Listed.{other_default}
use Rattle.routes.proofs.Lists.{first_is, later_is}
use Rattle.words.specs.declared.key.Key.{Key}

-- ---- the keys of the copies at MaxAge

module _ (moment : ℕ) (key : Key) (copy : DatabaseCopy) (aged : is_aged_out moment copy ≡ true)
  where
    abbrev among : List (Key × DatabaseCopy) → Type 0
    among es = Contains (map (λ e. e.0) (filter (λ e. is_aged_out moment e.1) es)) key

    skipped : (e : Key × DatabaseCopy) (es : List (Key × DatabaseCopy)) (b : Bool) → among es
        → Contains (map (λ e. e.0) (cond b (e ∷ filter (λ e. is_aged_out moment e.1) es)
        (filter (λ e. is_aged_out moment e.1) es))) key
    skipped e es true rest = later_is e.0 (map (λ e. e.0) (filter (λ e. is_aged_out moment e.1) es))
        key rest
    skipped e es false rest = rest

    in_front : (e : Key × DatabaseCopy) (es : List (Key × DatabaseCopy)) (b : Bool) → b ≡ true
        → e.0 ≡ key → Contains (map (λ e. e.0)
        (cond b (e ∷ filter (λ e. is_aged_out moment e.1) es)
        (filter (λ e. is_aged_out moment e.1) es))) key
    in_front e es true on is = subst (λ k. Contains
        (e.0 ∷ map (λ e. e.0) (filter (λ e. is_aged_out moment e.1) es)) k) is
        (first_is e.0 (map (λ e. e.0) (filter (λ e. is_aged_out moment e.1) es)))
    in_front e es false on is = absurd (cc)

    pub among_aged : (es : List (Key × DatabaseCopy)) → finite.find key_cmp key es ≡ Some copy
        → among es
    among_aged [] is = absurd (cc)
    among_aged (e ∷ es) is = by_key (eq_by_cmp key_cmp key e.0) refl is (among_aged es)
      where
        by_key : (b : Bool) → eq_by_cmp key_cmp key e.0 ≡ b
            → cond b (Some e.1) (finite.find key_cmp key es) ≡ Some copy
            → (finite.find key_cmp key es ≡ Some copy → among es) → among (e ∷ es)
        by_key true tied is rest =
            let same : e.1 ≡ copy = cc in
            in_front e es (is_aged_out moment e.1) (ap (is_aged_out moment) same ∙ aged)
            (sym (keys_exact key e.0 ((Equal-is (key_cmp key e.0)).0 tied)))
        by_key false tied is rest = skipped e es (is_aged_out moment e.1) (rest is)

-- ---- one key after the other

-- one of the first n keys
abbrev pub IsAmong : List Key → ℕ → Key → Type 0
IsAmong keys n key = (k : ℕ) × (k < n) × (get_or keys k key ≡ key)

pub one_more : (P : Key → Type 0) (keys : List Key) (n : ℕ) (last : Key) → n < length keys
    → last ≡ get_or keys n last → P last → ((key : Key) → IsAmong keys n key → P key) → (key : Key)
    → IsAmong keys (n + 1) key → P key
one_more P keys n last within here holds all key (k, low, is) =
    elim (cases_eq k n) [
      | inl same ↦ subst P (here ∙ other_default keys n last key within
          ∙ ap (λ i. get_or keys i key) (sym same) ∙ is) holds
      | inr other ↦ all key (k, omega (arith, low, other), is)
    ]

-- ---- within one moment

-- each copy that has MaxAge had it
pub all_old_within : (last_type : Option ℕ) (before moment : ℕ) (db : Database) (keys : List Key)
    → before ≡ moment → HaveNotJustAgedOut last_type before moment db keys
all_old_within last_type before moment db keys same = λ key among copy up_to here aged.
    subst (λ m. is_aged_out m copy ≡ true) (sym same) aged

-- ---- what a copy says

grows : (age stored before moment : ℕ) → before ≤ moment
    → (min 3600 (age + (before - stored)) == 3600) ≡ true
    → (min 3600 (age + (moment - stored)) == 3600) ≡ true
grows age stored before moment order is =
    let full : min 3600 (age + (before - stored)) ≡ 3600 =
    eqb-true (min 3600 (age + (before - stored))) 3600 is in
    eq-eqb (min 3600 (age + (moment - stored))) 3600 (omega (arith, full, order))

later_aged : (before moment : ℕ) → before ≤ moment → (copy : DatabaseCopy)
    → is_aged_out before copy ≡ true → is_aged_out moment copy ≡ true
later_aged before moment order copy is =
    grows copy.lsa.header.age copy.stored before moment order is

alike : (a b : Bool) → (a ≡ true → b ≡ true) → (b ≡ true → a ≡ true) → a ≡ b
alike true b forth back = sym (forth refl)
alike false true forth back = back refl
alike false false forth back = refl

-- what doesn't have MaxAge later didn't have it before
younger : (a b : Bool) → (a ≡ true → b ≡ true) → b ≡ false → a ≡ false
younger true b later is = absurd (false≢true (sym is ∙ later refl))
younger false b later is = refl

module _ (before moment : ℕ) (order : before ≤ moment) (a b : DatabaseCopy)
    (body : a.lsa.body ≡ b.lsa.body) where
  -- copies of the same age both have MaxAge, or neither has
  says_of_one_age : HaveSameStoredAge a b
      → (is_aged_out moment b ≡ true → is_aged_out before b ≡ true)
      → contents_of before (Some a) ≡ contents_of moment (Some b)
  says_of_one_age same old =
      let first : is_aged_out before a ≡ is_aged_out before b =
      λ i. min 3600 (same.0 i + (before - same.1 i)) == 3600 in
      let aged : is_aged_out before b ≡ is_aged_out moment b =
      alike (is_aged_out before b) (is_aged_out moment b) (later_aged before moment order b) old
      in
      let both = first ∙ aged in
      λ i. cond (both i) None (Some (body i))

  -- below MaxAge both say their body
  says_below_max_age : HaveNoMaxAge moment a b → contents_of before (Some a) ≡ contents_of moment
      (Some b)
  says_below_max_age none =
      let first : is_aged_out before a ≡ false =
      younger (is_aged_out before a) (is_aged_out moment a) (later_aged before moment order a)
      none.0 in
      let both = first ∙ sym none.1 in
      λ i. cond (both i) None (Some (body i))

pub says_same : (before moment : ℕ) → before ≤ moment → (a b : Option DatabaseCopy)
    → ContentsAgree moment a b → ((copy : DatabaseCopy) → b ≡ Some copy
    → is_aged_out moment copy ≡ true → is_aged_out before copy ≡ true)
    → contents_of before a ≡ contents_of moment b
says_same before moment order None None same old = refl
says_same before moment order None (Some b) same old = absurd same
says_same before moment order (Some a) None same old = absurd same
says_same before moment order (Some a) (Some b) same old =
    elim same.1 [
      | inl age ↦ says_of_one_age before moment order a b same.0 age (old b refl)
      | inr none ↦ says_below_max_age before moment order a b same.0 none
    ]

pub all_same : (last_type : Option ℕ) (before moment : ℕ) (old new : Database) → before ≤ moment
    → AreLsasUnchanged last_type before moment old new
    → HaveSameContents last_type (contents_at before old) (contents_at moment new)
all_same last_type before moment old new order left key of =
    says_same before moment order (finite.get old key) (finite.get new key) (left key of).same
    (left key of).not_just_aged

-- ---- what is unchanged

-- only copies at MaxAge could have reached it
pub all_left : (last_type : Option ℕ) (before moment : ℕ) (old new : Database)
    → ((key : Key) → IsUpTo last_type key
    → ContentsAgree moment (finite.get old key) (finite.get new key))
    → HaveNotJustAgedOut last_type before moment new (max_age_keys moment new)
    → AreLsasUnchanged last_type before moment old new
all_left last_type before moment old new same old_ones key of = record {
  same = same key of;
  not_just_aged = λ copy is aged. old_ones key
      (among_aged moment key copy aged (finite.entries new) (sym (finite.get-entries new key) ∙ is))
      copy of is aged;
}

pub keeps_all : (last_type : Option ℕ) (before moment : ℕ) (old new : Database)
    → AreLsasUnchanged last_type before moment old new → (key : Key) → IsUpTo last_type key
    → ContentsAgree moment (finite.get old key) (finite.get new key)
keeps_all last_type before moment old new left key of = (left key of).same

pub olds_all : (last_type : Option ℕ) (before moment : ℕ) (old new : Database) (keys : List Key)
    → AreLsasUnchanged last_type before moment old new → HaveNotJustAgedOut last_type before moment
    new keys
olds_all last_type before moment old new keys left key among copy of is =
    (left key of).not_just_aged copy is
