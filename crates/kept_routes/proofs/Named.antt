-- The first key of the summary-LSAs that name a router, if there is one.
use Rattle.std.proofs.Common.{◌≡◌, ℕ, zero, suc, ◌<◌, ◌≤◌, ◌⊎◌, inl, inr, Bool, true, false, cond}
use Rattle.std.proofs.Common.{T, nat_lt, nat_eq, List, [], ◌∷◌, map, Some, None, ltb-true}
use Rattle.std.proofs.Common.{ltb-false, eqb-true, arith, refl, sym, ap, subst, ◌∙◌}
use mathlib.Core.Bool.{false≢true}
use Rattle.std.specs.Prelude.{Option, is_some, ◌&&◌, ◌↔◌, slice_get}
use Rattle.std.specs.Cmp.{Equal-is, nat_cmp_total, tied_itself}
use Rattle.std.specs.FinMap as finite
use Rattle.std.specs.FinMap.Entries.{below_all}
use Rattle.std.specs.Ordering.{eq_by_cmp, is_eq, is_le, is_lt, nat_cmp, ordering_then}
use Rattle.std.specs.declared.cmp.Ordering.{Ordering}
use Rattle.std.specs.declared.cmp.Ordering.TheVariants.{Less, Equal, Greater}
use Rattle.words.specs.declared.key.Key.{Key}
use Rattle.keyed_map.specs.Keys.{ByKey, key_cmp}
use Rattle.keyed_map.specs.Slots.{keys_from}
use Rattle.keyed_map.proofs.Keys.{keys_exact, keys_total}
use Rattle.kept_routes.specs.Externals.{NamesIt, first_named}

-- the value inside
pub the_some : {X : Type 0} (o : Option X) → is_some o ≡ true → (x : X) × (o ≡ Some x)
the_some None is = absurd (false≢true is)
the_some (Some x) is = (x, refl)

-- ---- the order of keys

-- not more by a number, then by something else
pub not_more : (a b : ℕ) (r : Ordering) → is_le (ordering_then (nat_cmp a b) r) ≡ true
    → (a < b) ⊎ ((a ≡ b) × (is_le r ≡ true))
not_more a b r is =
    elim (nat_lt a b) as (λ c. nat_lt a b ≡ c
    → is_le (ordering_then (cond c Less (cond (nat_eq a b) Equal Greater)) r) ≡ true
    → (a < b) ⊎ ((a ≡ b) × (is_le r ≡ true))) [
      | true ↦ λ t f. inl (ltb-true a b t)
      | false ↦ λ t f.
          elim (nat_eq a b) as (λ d. nat_eq a b ≡ d
          → is_le (ordering_then (cond d Equal Greater) r) ≡ true
          → (a < b) ⊎ ((a ≡ b) × (is_le r ≡ true))) [
            | true ↦ λ u g. inr (eqb-true a b u, g)
            | false ↦ λ u g. absurd (false≢true g)
          ] refl f
    ] refl is

abbrev pub id_cmp : Key → Key → Ordering
id_cmp a b = ordering_then (nat_cmp a.link_state_id b.link_state_id)
    (nat_cmp a.advertising_router b.advertising_router)

by_type : (a b : Key) → is_le (key_cmp a b) ≡ true
    → (a.ls_type < b.ls_type) ⊎ ((a.ls_type ≡ b.ls_type) × (is_le (id_cmp a b) ≡ true))
by_type a b is = not_more a.ls_type b.ls_type (id_cmp a b) is

by_id : (a b : Key) → is_le (id_cmp a b) ≡ true
    → (a.link_state_id < b.link_state_id)
    ⊎ ((a.link_state_id ≡ b.link_state_id)
    × (is_le (nat_cmp a.advertising_router b.advertising_router) ≡ true))
by_id a b is = not_more a.link_state_id b.link_state_id
    (nat_cmp a.advertising_router b.advertising_router) is

-- a key between two with the same type and Link State ID has both too
between : (first middle last : Key) → is_le (key_cmp first middle) ≡ true
    → is_le (key_cmp middle last) ≡ true → first.ls_type ≡ last.ls_type
    → first.link_state_id ≡ last.link_state_id
    → (middle.ls_type ≡ last.ls_type) × (middle.link_state_id ≡ last.link_state_id)
between first middle last low high types ids =
    elim (by_type first middle low) [
      | inl less ↦
          elim (by_type middle last high) [
            | inl more ↦ absurd (omega (arith, less, more, types))
            | inr same ↦ absurd (omega (arith, less, same.0, types))
          ]
      | inr one ↦
          elim (by_type middle last high) [
            | inl more ↦ absurd (omega (arith, one.0, more, types))
            | inr two ↦
                elim (by_id first middle one.1) [
                  | inl less ↦
                      elim (by_id middle last two.1) [
                        | inl more ↦ absurd (omega (arith, less, more, ids))
                        | inr same ↦ absurd (omega (arith, less, same.0, ids))
                      ]
                  | inr same ↦ (two.0, sym same.0 ∙ ids)
                ]
          ]
    ]

pub from_zero : (n : ℕ) → is_le (nat_cmp 0 n) ≡ true
from_zero zero = refl
from_zero (suc n) = by (nat_lt 0 (suc n)) (nat_eq 0 (suc n)) refl
  where
    by : (b c : Bool) → nat_lt 0 (suc n) ≡ b → is_le (cond b Less (cond c Equal Greater)) ≡ true
    by true c is = refl
    by false c is = absurd (let low : suc n ≤ 0 = ltb-false 0 (suc n) is in omega (arith, low))

pub is_least : (router : ℕ) (key : Key) → NamesIt router key
    → is_le (key_cmp (first_named router) key) ≡ true
is_least router key names =
    ap (λ n. is_le (ordering_then (nat_cmp 4 n)
    (ordering_then (nat_cmp router key.link_state_id) (nat_cmp 0 key.advertising_router))))
    names.0
    ∙ ap (λ n. is_le (ordering_then (nat_cmp router n) (nat_cmp 0 key.advertising_router))) names.1
    ∙ itself router (nat_cmp 0 key.advertising_router) ∙ from_zero key.advertising_router
  where
    itself : (n : ℕ) (r : Ordering) → is_le (ordering_then (nat_cmp n n) r) ≡ is_le r
    itself n r = ap (λ o. is_le (ordering_then o r)) (tied_itself nat_cmp_total n)

-- ---- keys in order

pub first_part : (a b : Bool) → T (a && b) → T a
first_part true b p = tt
first_part false b p = p

pub second_part : (a b : Bool) → T (a && b) → T b
second_part true b p = p
second_part false b p = absurd p

pub less : (r : Ordering) → T (is_lt r) → r ≡ Less
less Less p = refl
less Equal p = absurd p
less Greater p = absurd p

tied : (key other : Key) → eq_by_cmp key_cmp key other ≡ true → key ≡ other
tied key other is = keys_exact key other ((Equal-is (key_cmp key other)).0 is)

module _ {X : Type 0} where
  abbrev HasKey : Key → List (Key × X) → Type 0
  HasKey key es = is_some (finite.find key_cmp key es) ≡ true

  -- it is the first key, or among the others
  here_or_later : (key : Key) (e : Key × X) (es : List (Key × X)) → HasKey key (e ∷ es)
      → (key ≡ e.0) ⊎ HasKey key es
  here_or_later key e es has = by (eq_by_cmp key_cmp key e.0) refl has
    where
      by : (b : Bool) → eq_by_cmp key_cmp key e.0 ≡ b
          → is_some (cond b (Some e.1) (finite.find key_cmp key es)) ≡ true
          → (key ≡ e.0) ⊎ HasKey key es
      by true is h = inl (tied key e.0 is)
      by false is h = inr h

  below : (first key : Key) (es : List (Key × X)) → T (below_all key_cmp first es) → HasKey key es
      → key_cmp first key ≡ Less
  below first key [] all has = absurd (false≢true has)
  below first key (e ∷ es) all has =
      elim (here_or_later key e es has) [
        | inl here ↦ subst (λ k. key_cmp first k ≡ Less) (sym here) (less _ (first_part _ _ all))
        | inr later ↦ below first key es (second_part _ _ all) later
      ]

  -- the first of the keys from this one on, up to and including another
  pub record IsFirstOf (first key : Key) (es : List (Key × X)) : Type 0 where
    pub found : Key
    pub rest : List Key
    pub is : keys_from first (map (λ e. e.0) es) ≡ found ∷ rest
    pub low : is_le (key_cmp first found) ≡ true
    pub high : is_le (key_cmp found key) ≡ true

  pub first_of : (first key : Key) (es : List (Key × X)) → T (finite.is_sorted key_cmp es)
      → HasKey key es → is_le (key_cmp first key) ≡ true → IsFirstOf first key es
  first_of first key [] sorted has low = absurd (false≢true has)
  first_of first key (e ∷ es) sorted has low =
      by (is_le (key_cmp first e.0)) refl
      (λ later. first_of first key es (second_part _ _ sorted) later low)
    where
      front : List Key
      front = keys_from first (map (λ e. e.0) es)

      by : (b : Bool) → is_le (key_cmp first e.0) ≡ b → (HasKey key es → IsFirstOf first key es)
          → IsFirstOf first key (e ∷ es)
      by true is after = record {
        found = e.0;
        rest = front;
        is = ap (λ c. cond c (e.0 ∷ front) front) is;
        low = is;
        high =
            elim (here_or_later key e es has) [
              | inl here ↦ ap (λ k. is_le (key_cmp e.0 k)) here
                  ∙ ap is_le (tied_itself keys_total e.0)
              | inr later ↦ ap is_le (below e.0 key es (first_part _ _ sorted) later)
            ];
      }
      by false is after =
          elim (here_or_later key e es has) [
            | inl here ↦ absurd (false≢true
                (sym is ∙ ap (λ k. is_le (key_cmp first k)) (sym here) ∙ low))
            | inr later ↦
                let rest = after later in
                record {
                  found = rest.found;
                  rest = rest.rest;
                  is = ap (λ c. cond c (e.0 ∷ front) front) is ∙ rest.is;
                  low = rest.low;
                  high = rest.high;
                }
          ]

  -- a key from this one on exists
  pub is_there : (first found : Key) (rest : List Key) (es : List (Key × X))
      → keys_from first (map (λ e. e.0) es) ≡ found ∷ rest → HasKey found es
  is_there first found rest [] is = absurd (cc)
  is_there first found rest (e ∷ es) is =
      by (is_le (key_cmp first e.0)) refl (is_there first found rest es)
    where
      front : List Key
      front = keys_from first (map (λ e. e.0) es)

      later : (b : Bool) → HasKey found es
          → is_some (cond b (Some e.1) (finite.find key_cmp found es)) ≡ true
      later true has = refl
      later false has = has

      by : (b : Bool) → is_le (key_cmp first e.0) ≡ b
          → (keys_from first (map (λ e. e.0) es) ≡ found ∷ rest → HasKey found es)
          → HasKey found (e ∷ es)
      by true on after =
          let all : e.0 ∷ front ≡ found ∷ rest =
          sym (ap (λ c. cond c (e.0 ∷ front) front) on) ∙ is in
          let here : found ≡ e.0 = cc in
          ap (λ b. is_some (cond b (Some e.1) (finite.find key_cmp found es)))
          (ap (eq_by_cmp key_cmp found) (sym here) ∙ ap is_eq (tied_itself keys_total found))
      by false off after = later (eq_by_cmp key_cmp found e.0)
          (after (sym (ap (λ c. cond c (e.0 ∷ front) front) off) ∙ is))

  -- ---- the first of them in a map

  module _ (router : ℕ) (db : ByKey X) where
    abbrev from_it : List Key
    from_it = keys_from (first_named router) (finite.keys db)

    abbrev Named : Type 0
    Named = (key : Key) × (finite.contains_key db key ≡ true) × NamesIt router key

    firsts : (n : Named) → IsFirstOf (first_named router) n.0 (finite.entries db)
    firsts n =
        first_of (first_named router) n.0 (finite.entries db) (finite.entries_sorted db)
        (sym (ap is_some (finite.get-entries db n.0)) ∙ n.1) (is_least router n.0 n.2)

    pub none_named : None ≡ slice_get from_it 0 → Named → ⊥
    none_named none n =
        let f = firsts n in
        let one : slice_get from_it 0 ≡ Some f.found = ap (λ ks. slice_get ks 0) f.is in
        absurd (cc)

    front : (found : Key) (ks : List Key) → Some found ≡ slice_get ks 0
        → (rest : List Key) × (ks ≡ found ∷ rest)
    front found [] is = absurd (cc)
    front found (k ∷ ks) is = let same : k ≡ found = cc in (ks, ap (λ x. x ∷ ks) same)

    pub first_names : (found : Key) → Some found ≡ slice_get from_it 0
        → NamesIt router found ↔ Named
    first_names found some =
        let it = front found from_it some in (
          (λ names. (
            found,
            ap is_some (finite.get-entries db found)
                ∙ is_there (first_named router) found it.0 (finite.entries db) it.1,
            names,
          )),
          (λ n.
              let f = firsts n in
              let same : found ≡ f.found = heads found f.found it.0 f.rest (sym it.1 ∙ f.is) in
              let like = between (first_named router) f.found n.0 f.low f.high (sym n.2.0)
              (sym n.2.1) in
              subst (NamesIt router) (sym same) (like.0 ∙ n.2.0, like.1 ∙ n.2.1)),
        )
      where
        heads : (a b : Key) (xs ys : List Key) → a ∷ xs ≡ b ∷ ys → a ≡ b
        heads a b xs ys e = cc
