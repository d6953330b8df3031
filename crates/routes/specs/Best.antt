-- How the routes of offers are calculated: from the offers in an order that has the best one for a
-- prefix first.
use Rattle.std.specs.Prelude.{◌≡◌, bit_or}
use Rattle.std.specs.Ordering.{nat_cmp, ordering_then}
use Rattle.std.specs.declared.cmp.Ordering.{Ordering}
use Rattle.words.specs.Orders.{network_cmp, rank}
use Rattle.words.specs.declared.route.Route.{Route}
use Rattle.routes.specs.declared.offer.Offer.{Offer}

abbrev pub tag_cmp : Offer → Offer → Ordering
tag_cmp a b = ordering_then (nat_cmp a.tag b.tag) (nat_cmp a.hops b.hops)

abbrev pub originator_cmp : Offer → Offer → Ordering
originator_cmp a b = ordering_then (nat_cmp a.originator b.originator) (tag_cmp a b)

abbrev pub distance_cmp : Offer → Offer → Ordering
distance_cmp a b = ordering_then (nat_cmp a.distance b.distance) (originator_cmp a b)

abbrev pub cost_cmp : Offer → Offer → Ordering
cost_cmp a b = ordering_then (nat_cmp a.cost b.cost) (distance_cmp a b)

abbrev pub kind_cmp : Offer → Offer → Ordering
kind_cmp a b = ordering_then (nat_cmp (rank a.kind) (rank b.kind)) (cost_cmp a b)

-- by prefix, then better before worse, then by originator and tag
abbrev pub offer_cmp : Offer → Offer → Ordering
offer_cmp a b = ordering_then (network_cmp a.prefix b.prefix) (kind_cmp a b)

abbrev pub route_of : Offer → Route
route_of o =
    record {
      prefix = o.prefix;
      kind = o.kind;
      cost = o.cost;
      distance = o.distance;
      hops = o.hops;
      tag = o.tag;
    }

-- the offer is exactly as good as the route
pub record AsGood (r : Route) (o : Offer) : Type 0 where
  pub kind : r.kind ≡ o.kind
  pub cost : r.cost ≡ o.cost
  pub distance : r.distance ≡ o.distance

-- with the next hops of the offer too
abbrev pub joined_route : Route → Offer → Route
joined_route r o = record r { hops = bit_or r.hops o.hops }
