-- A route whose first answer isn't 0 has no answer 0.
use Rattle.std.proofs.Common.{◌≡◌, ℕ, ◌-◌, ◌<◌, inl, inr, true, false, cond, List, length, get_or}
use Rattle.std.proofs.Common.{arith, lt-ltb, refl, sym, ◌∙◌, ap, subst}
use Rattle.std.specs.Prelude.{◌⊎◌, ◌==◌}
use Rattle.std.specs.List.Sorted.{IsSorted}
use Rattle.std.specs.Ordering.{is_lt, nat_cmp, ordering_reverse, ordering_then}
use Rattle.std.specs.declared.cmp.Ordering.{Ordering}
use Rattle.std.specs.declared.cmp.Ordering.TheVariants.{Equal, Greater, Less}
use Rattle.std.proofs.lemmas.Bool.{cases_lt}
use Rattle.std.proofs.lemmas.Cmp.{tied_itself}
use Rattle.std.proofs.lemmas.List.Sorted.{ranks_by, sorted_far}
use Rattle.words.specs.declared.route.Route.{Route}
use Rattle.routes.specs.Tables.{IsLetIn, RouteWords}
use Rattle.routes.proofs.Listed.{other_default}
use Rattle.routes.specs.Orders.{answer_cmp, route_cmp}
use Rattle.routes.proofs.Ordered.{answers_total, by_route, routes_exact, routes_total}

-- ---- two routes, neither of which comes first

settled : (r s : Ordering) → s ≡ ordering_reverse r → is_lt r ≡ false → is_lt s ≡ false
    → r ≡ Equal
settled Less s e f g = absurd (let no : true ≡ false = f in cc)
settled Equal s e f g = refl
settled Greater s e f g = absurd (let no : true ≡ false = sym (ap is_lt e) ∙ g in cc)

same_route : (a b : Route) → is_lt (route_cmp a b) ≡ false → is_lt (route_cmp b a) ≡ false → a ≡ b
same_route a b f g =
    routes_exact a b (settled (route_cmp a b) (route_cmp b a) (routes_total.antisymm b a) f g)

-- ---- answers

comes_first : (x : Route × ℕ) (route : Route) → x.0 ≡ route → 0 < x.1
    → is_lt (answer_cmp (route, 0) x) ≡ true
comes_first x route of word =
    let tie : route_cmp route x.0 ≡ Equal =
    subst (λ (r : Route). route_cmp route r ≡ Equal) (sym of) (tied_itself routes_total route) in
    let less : nat_cmp 0 x.1 ≡ Less =
    ap (λ t. cond t Less (cond (0 == x.1) Equal Greater)) (lt-ltb 0 x.1 word) in
    ap is_lt (ap (λ r. ordering_then r (nat_cmp 0 x.1)) tie ∙ less)

module _ (answers : RouteWords) (up : IsSorted answer_cmp answers) (route : Route) (at : ℕ)
    (d : Route × ℕ) (low : at < length answers) (of : (get_or answers at d).0 ≡ route)
    (word : 0 < (get_or answers at d).1) where
  pub kept_out : (at ≡ 0) ⊎ ((get_or answers (at - 1) d).0 ≡ route → ⊥) → IsLetIn answers route → ⊥
  kept_out first (k, within, is) =
      let here : get_or answers k d ≡ (route, 0) =
      other_default answers k d (route, 0) within ∙ is in
      elim (cases_lt k at) [
        | inl before ↦ elim first [
          | inl none ↦ absurd (omega (arith, before, none))
          | inr other ↦
              let prev : Route × ℕ = get_or answers (at - 1) d in
              let far : is_lt (route_cmp prev.0 (get_or answers k d).0) ≡ false =
              sorted_far (λ (x : Route × ℕ) (y : Route × ℕ). is_lt (route_cmp x.0 y.0))
              (ranks_by routes_total (λ (y : Route × ℕ). y.0)) answers (by_route answers up) k
              (at - 1) d (omega (arith, before)) (omega (arith, low)) in
              let next : is_lt (route_cmp (get_or answers at d).0 prev.0) ≡ false =
              sorted_far (λ (x : Route × ℕ) (y : Route × ℕ). is_lt (route_cmp x.0 y.0))
              (ranks_by routes_total (λ (y : Route × ℕ). y.0)) answers (by_route answers up)
              (at - 1) at d (omega arith) low in
              other (same_route prev.0 route
              (subst (λ (y : Route × ℕ). is_lt (route_cmp prev.0 y.0) ≡ false) here far)
              (subst (λ (r : Route). is_lt (route_cmp r prev.0) ≡ false) of next))
        ]
        | inr after ↦
            let far : is_lt (answer_cmp (get_or answers k d) (get_or answers at d)) ≡ false =
            sorted_far (λ (x : Route × ℕ) (y : Route × ℕ). is_lt (answer_cmp x y))
            (ranks_by answers_total (λ (y : Route × ℕ). y)) answers up at k d after within in
            let first_one = comes_first (get_or answers at d) route of word in
            let no : true ≡ false =
            sym first_one ∙ subst (λ (y : Route × ℕ). is_lt (answer_cmp y (get_or answers at d))
            ≡ false) here far in
            absurd cc
      ]

-- ---- as code finds them

first_of_all : (answers : RouteWords) → IsSorted answer_cmp answers → (route : Route) (at : ℕ)
    (x : Route × ℕ) → at < length answers → x ≡ get_or answers at x → (x.0 ≡ route) × (0 < x.1)
    → (at ≡ 0) ⊎ ((y : Route × ℕ) × (y ≡ get_or answers (at - 1) y) × (y.0 ≡ route → ⊥))
    → IsLetIn answers route → ⊥
first_of_all answers up route at x low is out first =
    kept_out answers up route at x low
    (subst (λ (a : Route × ℕ). a.0 ≡ route) is out.0)
    (subst (λ (a : Route × ℕ). 0 < a.1) is out.1)
    (elim first [
      | inl none ↦ inl none
      | inr other ↦ elim (cases_lt 0 at) [
        | inl some ↦ inr (λ same. other.2 (subst (λ (a : Route × ℕ). a.0 ≡ route)
            (other_default answers (at - 1) x other.0 (omega (arith, low, some))
            ∙ sym other.1) same))
        | inr none ↦ inl (omega (arith, none))
      ]
    ])

pub at_first : (answers : RouteWords) → IsSorted answer_cmp answers → (route : Route) (at : ℕ)
    (x : Route × ℕ) → at < length answers → x ≡ get_or answers at x → (x.0 ≡ route) × (0 < x.1)
    → at ≡ 0 → IsLetIn answers route → ⊥
at_first answers up route at x low is out none = first_of_all answers up route at x low is out
    (inl none)

pub behind_another : (answers : RouteWords) → IsSorted answer_cmp answers → (route : Route)
    (at : ℕ) (x : Route × ℕ) → at < length answers → x ≡ get_or answers at x
    → (x.0 ≡ route) × (0 < x.1) → (y : Route × ℕ) → y ≡ get_or answers (at - 1) y
    → (y.0 ≡ route → ⊥) → IsLetIn answers route → ⊥
behind_another answers up route at x low is out y before other =
    first_of_all answers up route at x low is out (inr (y, before, other))
