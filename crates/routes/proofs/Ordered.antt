-- The order of answers is total, and distinguishes all answers.
use Rattle.std.proofs.Common.{◌≡◌, ℕ, false, List, refl}
use Rattle.std.specs.Cmp.{IsTotalOrder, nat_cmp_total}
use Rattle.std.specs.List.Sorted.{IsSorted, IsSortedBy}
use Rattle.std.specs.Ordering.{is_lt, nat_cmp, ordering_then}
use Rattle.std.specs.declared.cmp.Ordering.{Ordering}
use Rattle.std.specs.declared.cmp.Ordering.TheVariants.{Equal, Greater, Less}
use Rattle.std.proofs.lemmas.Cmp.{on_total, then_total}
use Rattle.std.proofs.lemmas.Map.Lookups.{exact_pairs, exact_unsigned}
use Rattle.words.specs.Orders.{kind_cmp, network_cmp, rank}
use Rattle.words.specs.Prefixes.{Network}
use Rattle.words.specs.declared.route.Route.{Route}
use Rattle.words.specs.declared.route.RouteKind.{RouteKind}
use Rattle.routes.proofs.Determined.{same_kind}
use Rattle.routes.proofs.Networks.{networks_exact, networks_total}
use Rattle.routes.specs.Orders.{answer_cmp, route_cmp}

pub routes_total : IsTotalOrder route_cmp
routes_total =
    then_total (on_total (λ (r : Route). r.prefix) networks_total)
    (then_total (on_total (λ (r : Route). rank r.kind) nat_cmp_total)
    (then_total (on_total (λ (r : Route). r.cost) nat_cmp_total)
    (then_total (on_total (λ (r : Route). r.distance) nat_cmp_total)
    (then_total (on_total (λ (r : Route). r.hops) nat_cmp_total)
    (on_total (λ (r : Route). r.tag) nat_cmp_total)))))

pub answers_total : IsTotalOrder answer_cmp
answers_total = then_total (on_total (λ (a : Route × ℕ). a.0) routes_total)
    (on_total (λ (a : Route × ℕ). a.1) nat_cmp_total)

-- ---- nothing else compares equal

kinds_exact : (a b : RouteKind) → kind_cmp a b ≡ Equal → a ≡ b
kinds_exact a b e = same_kind a b (exact_unsigned (rank a) (rank b) e)

abbrev Parts : Type 0
Parts = Network × (RouteKind × (ℕ × (ℕ × (ℕ × ℕ))))

abbrev parts : Route → Parts
parts r = (r.prefix, (r.kind, (r.cost, (r.distance, (r.hops, r.tag)))))

pub routes_exact : (a b : Route) → route_cmp a b ≡ Equal → a ≡ b
routes_exact a b e =
    let last = exact_pairs nat_cmp nat_cmp exact_unsigned exact_unsigned in
    let from_distance = exact_pairs nat_cmp _ exact_unsigned last in
    let from_cost = exact_pairs nat_cmp _ exact_unsigned from_distance in
    let from_kind = exact_pairs kind_cmp _ kinds_exact from_cost in
    let same : parts a ≡ parts b = exact_pairs network_cmp _ networks_exact from_kind (parts a)
    (parts b) e in
    λ i. record {
      prefix = (same i).0;
      kind = (same i).1.0;
      cost = (same i).1.1.0;
      distance = (same i).1.1.1.0;
      hops = (same i).1.1.1.1.0;
      tag = (same i).1.1.1.1.1;
    }

pub answers_exact : (a b : Route × ℕ) → answer_cmp a b ≡ Equal → a ≡ b
answers_exact = exact_pairs route_cmp nat_cmp routes_exact exact_unsigned

-- ---- sorted answers are in the order of their routes

first_not_less : (r s : Ordering) → is_lt (ordering_then r s) ≡ false → is_lt r ≡ false
first_not_less Less s e = e
first_not_less Equal s e = refl
first_not_less Greater s e = refl

pub by_route : (answers : List (Route × ℕ)) → IsSorted answer_cmp answers
    → IsSortedBy (λ (a : Route × ℕ) (b : Route × ℕ). is_lt (route_cmp a.0 b.0)) answers
by_route answers up k d low high = first_not_less _ _ (up k d low high)
