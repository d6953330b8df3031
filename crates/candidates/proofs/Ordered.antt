-- A list of routes that is sorted by prefix allows binary search.
use Rattle.std.proofs.Common.{◌≡◌, ℕ, ◌+◌, ◌<◌, ◌≤◌, inl, inr, Bool, true, false, List, [], ◌∷◌}
use Rattle.std.proofs.Common.{◌++◌, take, set, Some, None, length, get_or, arith, refl, sym, ◌∙◌}
use Rattle.std.proofs.Common.{ap, subst}
use Rattle.std.specs.Cmp.{nat_cmp_is}
use Rattle.std.specs.List.{Contains, HoldsAt}
use Rattle.std.specs.List.Sorted.{IsNonDecreasingBy, IsPartitionPoint}
use Rattle.std.specs.Ordering.{is_lt, nat_cmp, ordering_index, ordering_then}
use Rattle.std.specs.declared.cmp.Ordering.{Ordering}
use Rattle.std.specs.declared.cmp.Ordering.TheVariants.{Equal, Greater, Less}
use Rattle.std.proofs.lemmas.Bool.{cases_eq, cases_lt}
use Rattle.std.proofs.lemmas.List.{get_or-set_other, get_or_past, take_more}
use Rattle.std.proofs.lemmas.Grind.{get_or-set_at}
use Rattle.std.proofs.lemmas.List.Elements.{Contains-push_cases}
use Rattle.std.proofs.lemmas.List.Sorted.{searchable_from_sorted}
use Rattle.words.specs.Orders.{network_cmp}
use Rattle.words.specs.Prefixes.{IsUnder, Network, network_address}
use Rattle.words.specs.declared.route.Route.{Route}
use Rattle.routes.specs.Routes.{IsBefore}
use Rattle.routes.specs.Routes.IsBefore.{ByAddress, ByLength}
use Rattle.routes.proofs.Listed.{other_default}
use Rattle.routes.proofs.Networks.{networks_exact, networks_total}
use Rattle.routes.proofs.OneMore.{never_itself}
use Rattle.std.specs.Prelude.{slice_index_or}
use Rattle.candidates.specs.Borders.{Ascend, HasLengths, IsFound, IsMatch, IsLongest}
use Rattle.candidates.specs.Gathering.{IsOnly}

pub network_itself : (a b : Network) → a ≡ b → network_cmp a b ≡ Equal
network_itself a b e =
    let one : Equal ≡ nat_cmp a.address b.address =
    nat_cmp_is a.address b.address Equal (ap (λ (n : Network). n.address) e) in
    let two : Equal ≡ nat_cmp a.length b.length =
    nat_cmp_is a.length b.length Equal (ap (λ (n : Network). n.length) e) in
    ap (λ r. ordering_then r (nat_cmp a.length b.length)) (sym one) ∙ sym two

not_less : (a b : Network) → IsBefore a b → is_lt (network_cmp b a) ≡ false
not_less a b (ByAddress less) =
    let e : Greater ≡ nat_cmp b.address a.address = nat_cmp_is b.address a.address Greater less in
    ap (λ r. is_lt (ordering_then r (nat_cmp b.length a.length))) (sym e)
not_less a b (ByLength same less) =
    let e : Equal ≡ nat_cmp b.address a.address = nat_cmp_is b.address a.address Equal (sym same) in
    let f : Greater ≡ nat_cmp b.length a.length = nat_cmp_is b.length a.length Greater less in
    ap (λ r. is_lt (ordering_then r (nat_cmp b.length a.length))) (sym e)
    ∙ ap (λ r. is_lt r) (sym f)

pub searchable : (routes : List Route) (prefix : Network) → Ascend routes
    → IsNonDecreasingBy (λ (y : Route). ordering_index (network_cmp y.prefix prefix)) routes
searchable routes prefix up =
    searchable_from_sorted networks_total (λ (y : Route). y.prefix) routes prefix
    (λ k d low within. not_less (get_or routes k d).prefix (get_or routes (k + 1) d).prefix
    (up k (k + 1) d (omega arith) within))

-- two routes for one prefix are the same
pub one_for_prefix : (routes : List Route) → Ascend routes → (r s : Route) → Contains routes r
    → Contains routes s → r.prefix ≡ s.prefix → r ≡ s
one_for_prefix routes up r s (i, in_i, is_r) (j, in_j, is_s) e =
    let R : Route → Route → Type 0 = λ a b. IsBefore a.prefix b.prefix in
    let at_i : get_or routes i s ≡ r = other_default routes i s r in_i ∙ is_r in
    elim (cases_lt i j) [
      | inl before ↦
          let order : R r s = subst (λ a. R a s) at_i
          (subst (R (get_or routes i s)) is_s (up i j s before in_j)) in
          absurd (never_itself r.prefix s.prefix e order)
      | inr far ↦
          elim (cases_lt j i) [
            | inl after ↦
                let order : R s r = subst (λ a. R a r) (other_default routes j r s in_j ∙ is_s)
                (subst (R (get_or routes j r)) is_r (up j i r after in_i)) in
                absurd (never_itself s.prefix r.prefix (sym e) order)
            | inr last ↦
                let same : i ≡ j = omega (arith, far, last) in
                sym at_i ∙ ap (λ k. get_or routes k s) same ∙ is_s
          ]
    ]

pub found_at : (routes : List Route) (prefix : Network) → Ascend routes → (at : ℕ) (route : Route)
    → at < length routes → HoldsAt (λ (y : Route). network_cmp y.prefix prefix ≡ Equal) routes at
    → route ≡ get_or routes at route → IsOnly (IsFound routes prefix) (Some route)
found_at routes prefix up at route within holds is =
    let P : Route → Type 0 = λ y. network_cmp y.prefix prefix ≡ Equal in
    let among : Contains routes route = (at, within, sym is) in
    let is_for : route.prefix ≡ prefix =
    networks_exact route.prefix prefix (subst P (sym is) (holds route)) in
    λ other. (
      λ f. one_for_prefix routes up other route f.among among (f.is_for ∙ sym is_for),
      λ e. subst (IsFound routes prefix) (sym e) (record { among = among; is_for = is_for }),
    )

pub not_found : (routes : List Route) (prefix : Network) (at : ℕ)
    → IsPartitionPoint (λ (y : Route). network_cmp y.prefix prefix ≡ Less)
    (λ (y : Route). network_cmp y.prefix prefix ≡ Greater) routes at → (route : Route)
    → IsFound routes prefix route → ⊥
not_found routes prefix at parts route found =
    let k = found.among.0 in
    let within : k < length routes = found.among.1 in
    let P : Ordering → Route → Type 0 = λ r y. network_cmp y.prefix prefix ≡ r in
    let here : network_cmp route.prefix prefix ≡ Equal =
    network_itself route.prefix prefix found.is_for in
    elim (cases_lt k at) [
      | inl before ↦ let less : network_cmp route.prefix prefix ≡ Less =
          subst (P Less) found.among.2 (parts.0 k route (omega arith) before) in
          absurd (let no : Equal ≡ Less = sym here ∙ less in cc)
      | inr after ↦ let more : network_cmp route.prefix prefix ≡ Greater =
          subst (P Greater) found.among.2 (parts.1 k route (omega (arith, after)) within) in
          absurd (let no : Equal ≡ Greater = sym here ∙ more in cc)
    ]

-- ---- the longest match

same_prefix : (address length : ℕ) (prefix : Network) → prefix ≡ record {
  address = network_address length address;
  length = length;
} → (n : Network) → IsUnder address n → n.length ≡ length → n ≡ prefix
same_prefix address length prefix is n under long =
    let at : n.address ≡ network_address length address =
    sym under ∙ ap (λ k. network_address k address) long in
    (λ i. record { address = at i; length = long i }) ∙ sym is

pub no_match : (routes : List Route) (address length : ℕ) (prefix : Network) → prefix ≡ record {
  address = network_address length address;
  length = length;
} → IsOnly (IsFound routes prefix) None → IsOnly (IsMatch routes address length) None
no_match routes address length prefix is none = λ route k. none route (record {
  among = k.among;
  is_for = same_prefix address length prefix is route.prefix k.under k.is_long;
})

pub one_match : (routes : List Route) (address length : ℕ) (prefix : Network) (found : Route)
    → prefix ≡ record {
      address = network_address length address;
      length = length;
    } → IsOnly (IsFound routes prefix) (Some found)
    → IsOnly (IsMatch routes address length) (Some found)
one_match routes address length prefix found is just = λ route. (
  λ k. (just route).0 (record {
    among = k.among;
    is_for = same_prefix address length prefix is route.prefix k.under k.is_long;
  }),
  λ e.
      let f = (just found).1 refl in
      let here : found.prefix ≡ record {
        address = network_address length address;
        length = length;
      } = f.is_for ∙ is in
      let long : found.prefix.length ≡ length = ap (λ (n : Network). n.length) here in
      let under : IsUnder address found.prefix =
      ap (λ k. network_address k address) long ∙ sym (ap (λ (n : Network). n.address) here) in
      subst (IsMatch routes address length) (sym e) (record {
        among = f.among;
        under = under;
        is_long = long;
      }),
)

-- no network of this length or longer contains the address
abbrev pub AreShorter : List Route → ℕ → ℕ → Type 0
AreShorter routes address length = (route : Route) → Contains routes route
    → IsUnder address route.prefix → route.prefix.length < length

pub at_most_32 : (routes : List Route) (address : ℕ) (lengths : List Bool) → length lengths ≡ 33
    → HasLengths routes lengths → AreShorter routes address 33
at_most_32 routes address lengths size has route among under =
    elim (cases_lt route.prefix.length 33) [
      | inl less ↦ less
      | inr more ↦ absurd (let past : slice_index_or lengths route.prefix.length false ≡ false =
          get_or_past lengths route.prefix.length false (omega (arith, size, more)) in
          let no : true ≡ false = sym (has route among) ∙ past in cc)
    ]

pub unmarked : (routes : List Route) (address n at : ℕ) (lengths : List Bool)
    → HasLengths routes lengths → at ≡ n → slice_index_or lengths at false ≡ false
    → IsOnly (IsMatch routes address n) None
unmarked routes address n at lengths has is off = λ route k.
    let on : slice_index_or lengths at false ≡ true =
    ap (λ j. slice_index_or lengths j false) (is ∙ sym k.is_long) ∙ has route k.among in
    let no : true ≡ false = sym on ∙ off in
    cc

pub shorter_unmatched : (routes : List Route) (address n : ℕ)
    → IsOnly (IsMatch routes address n) None → AreShorter routes address (n + 1)
    → AreShorter routes address n
shorter_unmatched routes address n none below route among under =
    elim (cases_eq route.prefix.length n) [
      | inl e ↦ absurd (none route (record { among = among; under = under; is_long = e }))
      | inr other ↦ omega (arith, other, below route among under)
    ]

pub is_longest : (routes : List Route) (address n : ℕ) (found : Route)
    → IsOnly (IsMatch routes address n) (Some found) → AreShorter routes address (n + 1)
    → IsOnly (IsLongest routes address) (Some found)
is_longest routes address n found just below = λ route. (
  λ k.
      let f = (just found).1 refl in
      let one : found.prefix.length ≤ route.prefix.length = k.longest found f.among f.under in
      let two : route.prefix.length < n + 1 = below route k.among k.under in
      (just route).0 (record {
        among = k.among;
        under = k.under;
        is_long = omega (arith, one, two, f.is_long);
      }),
  λ e.
      let f = (just found).1 refl in
      subst (IsLongest routes address) (sym e) (record {
        among = f.among;
        under = f.under;
        longest = λ other among under. omega (arith, below other among under, f.is_long);
      }),
)

pub none_long : (routes : List Route) (address : ℕ) → AreShorter routes address 0
    → IsOnly (IsLongest routes address) None
none_long routes address below = λ route k. omega (arith, below route k.among k.under)

-- ---- the lengths that occur

pub marked_more : (routes : List Route) (i : ℕ) (route : Route) → route ≡ get_or routes i route
    → i < length routes → (lengths : List Bool) → route.prefix.length < length lengths
    → HasLengths (take i routes) lengths
    → HasLengths (take (i + 1) routes) (set lengths route.prefix.length true)
marked_more routes i route is lt lengths within has r among =
    let split : take (i + 1) routes ≡ take i routes ++ route ∷ [] =
    take_more routes i route lt ∙ ap (λ (y : Route). take i routes ++ y ∷ []) (sym is) in
    elim (cases_eq r.prefix.length route.prefix.length) [
      | inl e ↦ ap (λ k. slice_index_or (set lengths route.prefix.length true) k false) e
          ∙ get_or-set_at lengths route.prefix.length route.prefix.length true false refl within
      | inr other ↦
          elim (Contains-push_cases (take i routes) route r
          (subst (λ xs. Contains xs r) split among)) [
            | inl old ↦ get_or-set_other lengths route.prefix.length r.prefix.length true false
                other ∙ has r old
            | inr same ↦ absurd (other (ap (λ (x : Route). x.prefix.length) (sym same)))
          ]
    ]
