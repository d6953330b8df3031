-- What a binary search shows of a sorted list.
use Rattle.std.proofs.Common.{◌≡◌, ℕ, ◌<◌, inl, inr, IsTrue, true, false, List, length, get_or}
use Rattle.std.proofs.Common.{Result, Ok, Err, arith, refl, sym, ◌∙◌, subst}
use Rattle.std.specs.Prelude.{◌↔◌, is_ok}
use Rattle.std.specs.Cmp.{IsTotalOrder}
use Rattle.std.specs.List.{Contains}
use Rattle.std.specs.List.Sorted.{IsBinarySearchResult, IsSearchInRange, IsSorted, IsSortedBy}
use Rattle.std.specs.Ordering.{is_lt}
use Rattle.std.specs.declared.cmp.Ordering.{Ordering}
use Rattle.std.specs.declared.cmp.Ordering.TheVariants.{Equal, Greater, Less}
use Rattle.std.proofs.lemmas.Bool.{cases_lt}
use Rattle.std.proofs.lemmas.Cmp.{tied_itself}
use Rattle.std.proofs.lemmas.List.Sorted.{searchable_from_sorted}
use Rattle.words.specs.declared.route.Route.{Route}
use Rattle.routes.specs.Tables.{RouteWords, HasAnswer, IsLetIn}
use Rattle.routes.proofs.Listed.{other_default}
use Rattle.routes.specs.Orders.{answer_cmp, route_cmp}
use Rattle.routes.proofs.Ordered.{answers_exact, answers_total, by_route, routes_exact}
use Rattle.routes.proofs.Ordered.{routes_total}

module _ {X K : Type 0} {R : K → K → Ordering} (total : IsTotalOrder R) (key : X → K) (xs : List X)
    (up : IsSortedBy (λ (a : X) (b : X). is_lt (R (key a) (key b))) xs) (wanted : K) where
  -- some element compares equal to the wanted one
  abbrev pub Holds : Type 0
  Holds = (x : X) × Contains xs x × (R (key x) wanted ≡ Equal)

  pub found : (d : X) (at : ℕ) → at < length xs
      → IsBinarySearchResult (λ y. R (key y) wanted) xs (Ok at) → Holds
  found d at within holds =
      let x = get_or xs at d in
      (x, (at, within, other_default xs at x d within), holds d)

  pub missing : (at : ℕ) → IsBinarySearchResult (λ y. R (key y) wanted) xs (Err at) → Holds → ⊥
  missing at parts (x, (k, within, is), e) =
      let points = parts (searchable_from_sorted total key xs wanted up) in
      let P : Ordering → X → Type 0 = λ r y. R (key y) wanted ≡ r in
      elim (cases_lt k at) [
        | inl before ↦ let less : R (key x) wanted ≡ Less =
            subst (P Less) is (points.0 k x (omega arith) before) in
            absurd (let no : Equal ≡ Less = sym e ∙ less in cc)
        | inr after ↦ let more : R (key x) wanted ≡ Greater =
            subst (P Greater) is (points.1 k x (omega (arith, after)) within) in
            absurd (let no : Equal ≡ Greater = sym e ∙ more in cc)
      ]

-- ---- answers

pub lets_in : (answers : RouteWords) (route : Route) → IsSorted answer_cmp answers
    → (r : Result ℕ ℕ)
    → IsSearchInRange r (length answers)
    → IsBinarySearchResult (λ (y : Route × ℕ). answer_cmp y (route, 0)) answers r
    → IsTrue (is_ok r) ↔ IsLetIn answers route
lets_in answers route up (Ok at) range result = (
  λ t.
      let h = found answers_total (λ (y : Route × ℕ). y) answers up (route, 0) (route, 0) at range
      result in
      subst (λ y. Contains answers y) (answers_exact h.0 (route, 0) h.2) h.1,
  λ t. refl,
)
lets_in answers route up (Err at) range result = (
  λ t. absurd (let no : false ≡ true = t in cc),
  λ among. absurd (missing answers_total (λ (y : Route × ℕ). y) answers up (route, 0) at result
      ((route, 0), among, tied_itself answers_total (route, 0))),
)

pub tells_answered : (answers : RouteWords) (route : Route) → IsSorted answer_cmp answers
    → (r : Result ℕ ℕ) → IsSearchInRange r (length answers)
    → IsBinarySearchResult (λ (y : Route × ℕ). route_cmp y.0 route) answers r
    → IsTrue (is_ok r) ↔ HasAnswer answers route
tells_answered answers route up (Ok at) range result = (
  λ t.
      let h = found routes_total (λ (y : Route × ℕ). y.0) answers (by_route answers up) route
      (route, 0) at range result in
      let same : h.0.0 ≡ route = routes_exact h.0.0 route h.2 in
      (h.0.1, subst (λ (r : Route). Contains answers (r, h.0.1)) same h.1),
  λ t. refl,
)
tells_answered answers route up (Err at) range result = (
  λ t. absurd (let no : false ≡ true = t in cc),
  λ answered. absurd (missing routes_total (λ (y : Route × ℕ). y.0) answers (by_route answers up)
      route at result ((route, answered.0), answered.1, tied_itself routes_total route)),
)
