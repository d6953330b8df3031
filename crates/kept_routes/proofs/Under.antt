-- The keys of the AS-external-LSAs whose Link State IDs are in a network are contiguous.
use Rattle.std.proofs.Common.{◌≡◌, ℕ, zero, suc, ◌+◌, ◌-◌, ◌*◌, ◌/◌, ◌%◌, ◌<◌, ◌≤◌, ◌⊎◌, inl, inr}
use Rattle.std.proofs.Common.{Bool, true, false, cond, T, nat_lt, nat_eq, List, [], ◌∷◌, length}
use Rattle.std.proofs.Common.{get_or, map, take, Some, ltb-false, arith, refl, sym, ap, subst, ◌∙◌}
use mathlib.Core.Bool.{false≢true}
use Rattle.std.specs.Prelude.{slice_get}
use Rattle.std.specs.Cmp.{Equal-is}
use Rattle.std.specs.FinMap as finite
use Rattle.std.specs.FinMap.Entries.{below_all, is_sorted}
use Rattle.std.specs.List.{All, AllPairs, Contains, filter}
use Rattle.std.specs.Ordering.{eq_by_cmp, is_le, nat_cmp, ordering_then}
use Rattle.std.specs.declared.cmp.Ordering.{Ordering}
use Rattle.std.specs.declared.cmp.Ordering.TheVariants.{Equal, Greater, Less}
use Rattle.std.proofs.lemmas.Bool.{cases_lt, eqb-false}
use Rattle.std.proofs.lemmas.List.{get_or-take, length-take, length-take-le}
use Rattle.std.proofs.lemmas.List.Kept.{AllPairs-cons, AllPairs-filter}
use Rattle.std.proofs.lemmas.Map.Views.{Contains-from_any}
use Rattle.std.proofs.lemmas.Nat.{div-add-mod', pow_pos}
use Rattle.std.proofs.lemmas.Option.{slice_get-get_or}
use Rattle.std.proofs.Math.Nat.{add-mul, lt_of_mul-lt-mul_right, mod-lt}
use Rattle.words.specs.Prefixes.{Network, block, network_address}
use Rattle.words.specs.declared.key.Key.{Key}
use Rattle.keyed_map.specs.Keys.{key_cmp}
use Rattle.keyed_map.specs.Slots.{keys_from}
use Rattle.keyed_map.proofs.Keys.{keys_exact}
use Rattle.lsdb.specs.Copies.{Database}
use Rattle.routes.proofs.Lists.{first_is, later_is, of_cons, of_empty}
use Rattle.routes.proofs.Listed.{other_default}
use Rattle.kept_routes.proofs.Named.{first_part, from_zero, id_cmp, less, not_more, second_part}
use Rattle.kept_routes.specs.Destinations.{HaveAllUnder, LiesUnder, first_key}

-- ---- addresses of one network

-- an address between the network's first one and another of the network is in it
pub between : (n first middle last : ℕ) → first ≤ middle → middle ≤ last
    → network_address n last ≡ first → network_address n middle ≡ first
between n first middle last low high is =
    let b = block n in
    let some : 0 < b = pow_pos (32 - n) in
    let q = last / b in
    let r = middle / b in
    let of_last = div-add-mod' last b in
    let of_middle = div-add-mod' middle b in
    let rest : last % b < b = mod-lt last some in
    let over : middle % b < b = mod-lt middle some in
    let base : first ≡ q * b = omega (arith, is, of_last) in
    let one_q : (q + 1) * b ≡ q * b + 1 * b = add-mul q 1 b in
    let one_r : (r + 1) * b ≡ r * b + 1 * b = add-mul r 1 b in
    let up : r * b < (q + 1) * b = omega (arith, of_middle, of_last, high, rest, one_q) in
    let down : q * b < (r + 1) * b = omega (arith, of_middle, base, low, over, one_r) in
    let no_more : r < q + 1 = lt_of_mul-lt-mul_right b up in
    let no_less : q < r + 1 = lt_of_mul-lt-mul_right b down in
    let same : r ≡ q = omega (arith, no_more, no_less) in
    let times : r * b ≡ q * b = ap (λ k. k * b) same in
    omega (arith, of_middle, times, base)

-- ---- the order of keys

-- sorted keys have sorted types, and sorted Link State IDs if they have one type
types : (a b : Key) → is_le (key_cmp a b) ≡ true → a.ls_type ≤ b.ls_type
types a b is =
    elim (not_more a.ls_type b.ls_type (id_cmp a b) is) [
      | inl less ↦ omega (arith, less)
      | inr same ↦ omega (arith, same.0)
    ]

ids : (a b : Key) → is_le (key_cmp a b) ≡ true → a.ls_type ≡ b.ls_type
    → a.link_state_id ≤ b.link_state_id
ids a b is one =
    elim (not_more a.ls_type b.ls_type (id_cmp a b) is) [
      | inl less ↦ absurd (omega (arith, less, one))
      | inr same ↦
          elim (not_more a.link_state_id b.link_state_id
          (nat_cmp a.advertising_router b.advertising_router) same.1) [
            | inl less ↦ omega (arith, less)
            | inr equal ↦ omega (arith, equal.0)
          ]
    ]

-- a key between the first one and one in the network is in the network
middle_lies : (prefix : Network) (middle last : Key)
    → is_le (key_cmp (first_key prefix) middle) ≡ true → is_le (key_cmp middle last) ≡ true
    → LiesUnder prefix last → LiesUnder prefix middle
middle_lies prefix middle last low high lies =
    let five : middle.ls_type ≡ 5 = omega
    (arith, types (first_key prefix) middle low, types middle last high, lies.0) in (
      five,
      between prefix.length prefix.address middle.link_state_id last.link_state_id
          (ids (first_key prefix) middle low (sym five)) (ids middle last high (five ∙ sym lies.0))
          lies.1,
    )

-- ---- the least key of a network

-- not more by a number, nor by what follows if the numbers are equal
in_turn : (a b : ℕ) (r : Ordering) → a ≤ b → is_le r ≡ true
    → is_le (ordering_then (nat_cmp a b) r) ≡ true
in_turn a b r low rest =
    elim (nat_lt a b) as (λ c. nat_lt a b ≡ c
    → is_le (ordering_then (cond c Less (cond (nat_eq a b) Equal Greater)) r) ≡ true) [
      | true ↦ λ t. refl
      | false ↦ λ t.
          elim (nat_eq a b) as (λ d. nat_eq a b ≡ d
          → is_le (ordering_then (cond d Equal Greater) r) ≡ true) [
            | true ↦ λ u. rest
            | false ↦ λ u. let back : b ≤ a = ltb-false a b t in let apart : a ≡ b → ⊥ =
                eqb-false a b u in absurd (omega (arith, low, back, apart))
          ] refl
    ] refl

-- the address of a network is at most any address in it
at_least : (n address first : ℕ) → network_address n address ≡ first → first ≤ address
at_least n address first is = omega (arith, is)

is_least : (prefix : Network) (key : Key) → LiesUnder prefix key
    → is_le (key_cmp (first_key prefix) key) ≡ true
is_least prefix key lies =
    in_turn 5 key.ls_type (id_cmp (first_key prefix) key) (omega (arith, lies.0))
    (in_turn prefix.address key.link_state_id (nat_cmp 0 key.advertising_router)
    (at_least prefix.length key.link_state_id prefix.address lies.1)
    (from_zero key.advertising_router))

-- ---- keys in order

abbrev Ascending : Key → Key → Type 0
Ascending a b = key_cmp a b ≡ Less

module _ {X : Type 0} where
  below : (key : Key) (es : List (Key × X)) → T (below_all key_cmp key es)
      → All (λ k. key_cmp key k ≡ Less) (map (λ e. e.0) es)
  below key [] all k d within = absurd (omega (arith, within))
  below key (e ∷ es) all zero d within = less _ (first_part _ _ all)
  below key (e ∷ es) all (suc k) d within =
      below key es (second_part _ _ all) k d (omega (arith, within))

  ascending : (es : List (Key × X)) → T (is_sorted key_cmp es)
      → AllPairs Ascending (map (λ e. e.0) es)
  ascending [] sorted = λ i j d lt within. absurd (omega (arith, within))
  ascending (e ∷ es) sorted = AllPairs-cons Ascending e.0 (map (λ f. f.0) es)
      (below e.0 es (first_part _ _ sorted)) (ascending es (second_part _ _ sorted))

among_filtered : (test : Key → Bool) (keys : List Key) (key : Key) → test key ≡ true
    → Contains keys key → Contains (filter test keys) key
among_filtered test [] key on among = absurd (of_empty key among)
among_filtered test (k ∷ keys) key on among =
    by (test k) refl (of_cons k keys key among) (λ later. among_filtered test keys key on later)
  where
    rest : List Key
    rest = filter test keys

    by : (b : Bool) → test k ≡ b → (k ≡ key) ⊎ Contains keys key
        → (Contains keys key → Contains rest key) → Contains (cond b (k ∷ rest) rest) key
    by true is (inl here) after = subst (Contains (k ∷ rest)) here (first_is k rest)
    by true is (inr later) after = later_is k rest key (after later)
    by false is (inl here) after = absurd (false≢true (sym is ∙ ap test here ∙ on))
    by false is (inr later) after = after later

filtered_pass : (test : Key → Bool) (keys : List Key) (key : Key) → Contains (filter test keys) key
    → test key ≡ true
filtered_pass test [] key among = absurd (of_empty key among)
filtered_pass test (k ∷ keys) key among =
    by (test k) refl among (λ later. filtered_pass test keys key later)
  where
    rest : List Key
    rest = filter test keys

    by : (b : Bool) → test k ≡ b → Contains (cond b (k ∷ rest) rest) key
        → (Contains rest key → test key ≡ true) → test key ≡ true
    by true is t after =
        elim (of_cons k rest key t) [
          | inl here ↦ ap test (sym here) ∙ is
          | inr later ↦ after later
        ]
    by false is t after = after t

same_keys : (x y : Key) → eq_by_cmp key_cmp x y ≡ true → x ≡ y
same_keys x y e = keys_exact x y ((Equal-is (key_cmp x y)).0 e)

-- ---- the first keys from the least one on

module _ (db : Database) (prefix : Network) where
  abbrev from_it : List Key
  from_it = keys_from (first_key prefix) (finite.keys db)

  in_order : AllPairs Ascending from_it
  in_order = AllPairs-filter Ascending (λ k. is_le (key_cmp (first_key prefix) k)) (finite.keys db)
      (ascending (finite.entries db) (finite.entries_sorted db))

  among_all : (key : Key) → finite.contains_key db key ≡ true → LiesUnder prefix key
      → Contains from_it key
  among_all key there lies =
      among_filtered (λ k. is_le (key_cmp (first_key prefix) k)) (finite.keys db) key
      (is_least prefix key lies)
      (Contains-from_any same_keys key (finite.keys db)
      (sym (finite.contains_key-keys db key) ∙ there))

  pub all_under : (n : ℕ) (keys : List Key) → keys ≡ take (n + 1) from_it
      → ((last : Key) → slice_get keys n ≡ Some last → LiesUnder prefix last → ⊥)
      → HaveAllUnder db prefix keys
  all_under n keys is none key there lies =
      subst (λ ks. Contains ks key) (sym is) (by (among_all key there lies))
    where
      test : Key → Bool
      test = λ k. is_le (key_cmp (first_key prefix) k)

      by : Contains from_it key → Contains (take (n + 1) from_it) key
      by (k, inside, at) =
          elim (cases_lt k (n + 1)) [
            | inl low ↦ (
              k,
              omega (arith, low, inside, length-take (n + 1) from_it),
              get_or-take (n + 1) from_it k key low ∙ at,
            )
            | inr high ↦
                let longer : n + 1 ≤ length from_it = omega (arith, high, inside) in
                let last : Key = get_or from_it n key in
                let size : length (take (n + 1) from_it) ≡ n + 1 =
                length-take-le (n + 1) from_it longer in
                let read : slice_get keys n ≡ Some last =
                ap (λ ks. slice_get ks n) is ∙ slice_get-get_or (take (n + 1) from_it) n key
                (omega (arith, size)) ∙ ap (λ (x : Key). Some x)
                (get_or-take (n + 1) from_it n key (omega arith)) in
                let low : is_le (key_cmp (first_key prefix) last) ≡ true =
                filtered_pass test (finite.keys db) last (
                  n,
                  omega (arith, high, inside),
                  other_default from_it n last key (omega (arith, high, inside)),
                ) in
                let order : key_cmp last key ≡ Less =
                subst (λ x. key_cmp last x ≡ Less) at
                (in_order n k key (omega (arith, high)) inside) in
                absurd (none last read (middle_lies prefix last key low (ap is_le order) lies))
          ]
