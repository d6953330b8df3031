-- A search among routes in pages, which are in the order of their prefixes.
use Rattle.std.proofs.Common.{◌≡◌, ℕ, ◌+◌, ◌<◌, ◌≤◌, inl, inr, List, length, get_or, arith}
use Rattle.std.proofs.Common.{sym, ◌∙◌, ap, subst}
use Rattle.std.proofs.lemmas.Bool.{cases_eq}
use Rattle.std.proofs.lemmas.Option.{get_or_from_slice_get, slice_get-get_or}
use Rattle.candidates.specs.Borders.{Ascend}
use Rattle.keyed_map.specs.Places.{IsPartFrom}
use Rattle.routes.specs.Routes.{IsBefore}
use Rattle.routes.specs.Routes.IsBefore.{ByAddress, ByLength}
use Rattle.words.specs.Prefixes.{Network}
use Rattle.words.specs.declared.route.Route.{Route}
use Rattle.kept_routes.specs.Placing.{IsGap}

both_before : (a b c : Network) → IsBefore a b → IsBefore b c → IsBefore a c
both_before a b c (ByAddress x) (ByAddress y) = ByAddress (omega (arith, x, y))
both_before a b c (ByAddress x) (ByLength same y) = ByAddress (omega (arith, x, same))
both_before a b c (ByLength same x) (ByAddress y) = ByAddress (omega (arith, same, y))
both_before a b c (ByLength same x) (ByLength too y) = ByLength (same ∙ too) (omega (arith, x, y))

-- the routes before this index are for earlier prefixes
abbrev pub AreEarlier : List Route → ℕ → Network → Type 0
AreEarlier routes at prefix = (k : ℕ) (d : Route) → k < at
    → IsBefore (get_or routes k d).prefix prefix

-- the routes from this index on are for later ones
abbrev pub AreLater : List Route → ℕ → Network → Type 0
AreLater routes at prefix =
    (k : ℕ) (d : Route) → at ≤ k → k < length routes → IsBefore prefix (get_or routes k d).prefix

pub none_earlier : (routes : List Route) (prefix : Network) → AreEarlier routes 0 prefix
none_earlier routes prefix k d low = absurd (omega (arith, low))

pub none_later : (routes : List Route) (prefix : Network) (at : ℕ) → length routes ≤ at
    → AreLater routes at prefix
none_later routes prefix at all k d high low = absurd (omega (arith, all, high, low))

-- the first route of a part
pub first_of_part : (routes : List Route) (at : ℕ) (part : List Route) (route : Route)
    → IsPartFrom routes at part → at < length routes → route ≡ get_or part 0 route
    → route ≡ get_or routes at route
first_of_part routes at part route is within read =
    let zero : at + 0 ≡ at = omega arith in
    let some : 0 < length part = is.some within in
    let there = sym (is.each 0 some) ∙ slice_get-get_or part 0 route some in
    read ∙ sym (get_or_from_slice_get routes (at + 0) (get_or part 0 route) route there)
    ∙ ap (λ n. get_or routes n route) zero

module _ (routes : List Route) (up : Ascend routes) (prefix : Network) (at : ℕ)
    (within : at < length routes) where
  -- a route for an earlier prefix, and all before it
  pub up_to_it : ((d : Route) → IsBefore (get_or routes at d).prefix prefix)
      → AreEarlier routes (at + 1) prefix
  up_to_it here k d low =
      elim (cases_eq k at) [
        | inl same ↦
            subst (λ n. IsBefore (get_or routes n d).prefix prefix) (sym same) (here d)
        | inr apart ↦
            both_before (get_or routes k d).prefix (get_or routes at d).prefix prefix
            (up k at d (omega (arith, low, apart)) within) (here d)
      ]

  -- a route for a later prefix, and all behind it
  pub from_it_on : ((d : Route) → IsBefore prefix (get_or routes at d).prefix)
      → AreLater routes at prefix
  from_it_on here k d high low =
      elim (cases_eq k at) [
        | inl same ↦
            subst (λ n. IsBefore prefix (get_or routes n d).prefix) (sym same) (here d)
        | inr apart ↦
            both_before prefix (get_or routes at d).prefix (get_or routes k d).prefix (here d)
            (up at k d (omega (arith, high, apart)) low)
      ]

pub is_gap_between : (routes : List Route) (prefix : Network) (low high : ℕ)
    → high ≤ length routes → high ≤ low → low ≤ high → AreEarlier routes low prefix
    → AreLater routes high prefix → IsGap routes prefix low
is_gap_between routes prefix low high inside met order earlier later = record {
  within = omega (arith, inside, order);
  before = earlier;
  behind = λ k d from under. later k d (omega (arith, met, order, from)) under;
}
