-- The order of answers, by which they can be searched.
use Rattle.std.specs.Prelude.{ℕ}
use Rattle.std.specs.declared.cmp.Ordering.{Ordering}
use Rattle.std.specs.Ordering.{nat_cmp, ordering_then}
use Rattle.words.specs.Orders.{kind_cmp, network_cmp}
use Rattle.words.specs.declared.route.Route.{Route}

-- by prefix, then by all else that makes routes differ
abbrev pub route_cmp : Route → Route → Ordering
route_cmp a b =
    ordering_then (network_cmp a.prefix b.prefix)
    (ordering_then (kind_cmp a.kind b.kind)
    (ordering_then (nat_cmp a.cost b.cost)
    (ordering_then (nat_cmp a.distance b.distance)
    (ordering_then (nat_cmp a.hops b.hops) (nat_cmp a.tag b.tag)))))

-- by route, then by word
abbrev pub answer_cmp : (Route × ℕ) → (Route × ℕ) → Ordering
answer_cmp a b = ordering_then (route_cmp a.0 b.0) (nat_cmp a.1 b.1)
