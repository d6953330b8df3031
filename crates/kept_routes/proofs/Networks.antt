-- Equality of networks, and their membership in lists, are decidable.
use Rattle.std.proofs.Common.{◌≡◌, ◌⊎◌, inl, inr, ℕ, ◌<◌, ◌≤◌, length, get_or, Bool, true, false}
use Rattle.std.proofs.Common.{◌&&◌, ◌==◌, eqb-true, eq-eqb, List, [], ◌∷◌, arith, ap, sym, subst}
use Rattle.std.proofs.Common.{◌∙◌}
use Rattle.std.specs.Cmp.{nat_cmp_is}
use Rattle.std.specs.List.{Contains, HoldsAt}
use Rattle.std.specs.List.Sorted.{IsPartitionPoint}
use Rattle.std.specs.Ordering.{nat_cmp, ordering_then}
use Rattle.std.specs.declared.cmp.Ordering.TheVariants.{Equal, Greater, Less}
use Rattle.std.proofs.lemmas.Bool.{and_parts, cases_eq, cases_lt}
use Rattle.candidates.proofs.Ordered.{network_itself}
use Rattle.routes.proofs.Lists.{first_is, later_is, of_cons, of_empty}
use Rattle.routes.proofs.Networks.{networks_exact}
use Rattle.routes.specs.Routes.{IsBefore}
use Rattle.routes.specs.Routes.IsBefore.{ByAddress, ByLength}
use Rattle.words.specs.Orders.{network_cmp}
use Rattle.words.specs.Prefixes.{Network}
use Rattle.words.specs.declared.route.Route.{Route}
use Rattle.kept_routes.specs.Placing.{IsGap, IsThere}

pub same_or_not : (a b : Network) → (a ≡ b) ⊎ (a ≡ b → ⊥)
same_or_not a b =
    elim (cases_eq a.address b.address) [
      | inr other ↦ inr (λ e. other (ap (λ (n : Network). n.address) e))
      | inl address ↦
          elim (cases_eq a.length b.length) [
            | inr other ↦ inr (λ e. other (ap (λ (n : Network). n.length) e))
            | inl length ↦ inl (λ i. record { address = address i; length = length i })
          ]
    ]

-- the result of `==` on two networks
abbrev pub are_equal : Network → Network → Bool
are_equal a b = (a.address == b.address) && (a.length == b.length)

pub told_same : (a b : Network) → are_equal a b ≡ true → a ≡ b
told_same a b e =
    let t = and_parts (a.address == b.address) (a.length == b.length) e in
    λ i. record {
      address = eqb-true a.address b.address t.0 i;
      length = eqb-true a.length b.length t.1 i;
    }

pub told_other : (a b : Network) → are_equal a b ≡ false → a ≡ b → ⊥
told_other a b e same =
    let address : (a.address == b.address) ≡ true =
    eq-eqb a.address b.address (ap (λ (n : Network). n.address) same) in
    let length : (a.length == b.length) ≡ true =
    eq-eqb a.length b.length (ap (λ (n : Network). n.length) same) in
    let no : true ≡ false = sym (λ i. address i && length i) ∙ e in
    cc

pub among_or_not : (prefixes : List Network) (prefix : Network)
    → Contains prefixes prefix ⊎ (Contains prefixes prefix → ⊥)
among_or_not [] prefix = inr (of_empty prefix)
among_or_not (first ∷ rest) prefix =
    elim (same_or_not first prefix) [
      | inl is ↦ inl (subst (Contains (first ∷ rest)) is (first_is first rest))
      | inr other ↦
          elim (among_or_not rest prefix) [
            | inl later ↦ inl (later_is first rest prefix later)
            | inr none ↦
                inr (λ t.
                elim (of_cons first rest prefix t) [
                  | inl is ↦ other is
                  | inr later ↦ none later
                ])
          ]
    ]

-- ---- in their order

before_or_not : (a b : Network) → IsBefore a b ⊎ ((a ≡ b) ⊎ IsBefore b a)
before_or_not a b =
    elim (cases_lt a.address b.address) [
      | inl less ↦ inl (ByAddress less)
      | inr not ↦
          elim (cases_lt b.address a.address) [
            | inl more ↦ inr (inr (ByAddress more))
            | inr nor ↦
                let address : a.address ≡ b.address = omega (arith, not, nor) in
                elim (cases_lt a.length b.length) [
                  | inl shorter ↦ inl (ByLength address shorter)
                  | inr long ↦
                      elim (cases_lt b.length a.length) [
                        | inl longer ↦ inr (inr (ByLength (sym address) longer))
                        | inr short ↦
                            let length : a.length ≡ b.length = omega (arith, long, short) in
                            inr (inl (λ i. record { address = address i; length = length i }))
                      ]
                ]
          ]
    ]

told_less : (a b : Network) → IsBefore a b → Less ≡ network_cmp a b
told_less a b (ByAddress less) = ap (λ r. ordering_then r (nat_cmp a.length b.length))
    (nat_cmp_is a.address b.address Less less)
told_less a b (ByLength same less) =
    nat_cmp_is a.length b.length Less less
    ∙ ap (λ r. ordering_then r (nat_cmp a.length b.length))
    (nat_cmp_is a.address b.address Equal same)

told_more : (a b : Network) → IsBefore b a → Greater ≡ network_cmp a b
told_more a b (ByAddress less) = ap (λ r. ordering_then r (nat_cmp a.length b.length))
    (nat_cmp_is a.address b.address Greater less)
told_more a b (ByLength same less) =
    nat_cmp_is a.length b.length Greater less
    ∙ ap (λ r. ordering_then r (nat_cmp a.length b.length))
    (nat_cmp_is a.address b.address Equal (sym same))

pub less_is : (a b : Network) → network_cmp a b ≡ Less → IsBefore a b
less_is a b e =
    elim (before_or_not a b) [
      | inl before ↦ before
      | inr rest ↦
          elim rest [
            | inl same ↦ absurd (let no : Equal ≡ Less = sym (network_itself a b same) ∙ e in cc)
            | inr after ↦ absurd (let no : Greater ≡ Less = told_more a b after ∙ e in cc)
          ]
    ]

pub more_is : (a b : Network) → network_cmp a b ≡ Greater → IsBefore b a
more_is a b e =
    elim (before_or_not a b) [
      | inl before ↦ absurd (let no : Less ≡ Greater = told_less a b before ∙ e in cc)
      | inr rest ↦
          elim rest [
            | inl same ↦ absurd (let no : Equal ≡ Greater = sym (network_itself a b same) ∙ e in cc)
            | inr after ↦ after
          ]
    ]

pub is_there : (routes : List Route) (prefix : Network) (at : ℕ) → at < length routes
    → HoldsAt (λ (y : Route). network_cmp y.prefix prefix ≡ Equal) routes at
    → IsThere routes prefix at
is_there routes prefix at within holds = record {
  within = within;
  is_for = λ d. networks_exact (get_or routes at d).prefix prefix (holds d);
}

pub is_gap : (routes : List Route) (prefix : Network) (at : ℕ) → at ≤ length routes
    → IsPartitionPoint (λ (y : Route). network_cmp y.prefix prefix ≡ Less)
    (λ (y : Route). network_cmp y.prefix prefix ≡ Greater) routes at → IsGap routes prefix at
is_gap routes prefix at within parts = record {
  within = within;
  before = λ k d low. less_is (get_or routes k d).prefix prefix (parts.0 k d (omega arith) low);
  behind = λ k d high inside. more_is (get_or routes k d).prefix prefix (parts.1 k d high inside);
}
