-- Worked offers for one prefix, with the one route that results (RFC 2328, sections 11 and 16.4).
use Rattle.std.specs.Prelude.{ℕ, List, [], ◌∷◌}
use Rattle.std.specs.List.{Contains}
use Rattle.words.specs.declared.route.Route.{Route}
use Rattle.words.specs.declared.route.RouteKind.{RouteKind}
use Rattle.words.specs.declared.route.RouteKind.TheVariants.{External1, External2, Inter, Intra}
use Rattle.routes.specs.Routes.{AreRoutesAmong}
use Rattle.routes.specs.declared.offer.Offer.{Offer}
use Rattle.route_laws.specs.Worked.{ipv4, network_24}

-- an offer for 203.0.113.0/24 with cost 20 by router 2.2.2.2
abbrev pub offer_of : RouteKind → ℕ → ℕ → ℕ → Offer
offer_of kind distance hops tag = record {
  prefix = network_24 203 0 113;
  kind = kind;
  cost = 20;
  distance = distance;
  originator = ipv4 2 2 2 2;
  tag = tag;
  hops = hops;
}

abbrev pub route_to : RouteKind → ℕ → ℕ → ℕ → Route
route_to kind distance hops tag = record {
  prefix = network_24 203 0 113;
  kind = kind;
  cost = 20;
  distance = distance;
  hops = hops;
  tag = tag;
}

-- tags 5 and 3 by one router at one cost
abbrev pub two_tags : List Offer
two_tags = offer_of External1 0 2 5 ∷ offer_of External1 0 2 3 ∷ []

-- one type 2 metric, with the distances 10 and 20
abbrev pub two_distances : List Offer
two_distances = offer_of External2 10 2 0 ∷ offer_of External2 20 4 0 ∷ []

-- type 2, the metric 10 at distance 30, and the metric 20 at distance 5
abbrev pub metric_10 : Offer
metric_10 = record (offer_of External2 30 2 0) { cost = 10 }

abbrev pub metric_20 : Offer
metric_20 = offer_of External2 5 4 0

abbrev pub two_metrics : List Offer
two_metrics = metric_20 ∷ metric_10 ∷ []

abbrev pub by_metric_10 : Route
by_metric_10 = record (route_to External2 30 2 0) { cost = 10 }

-- the network 198.51.100.0/24, intra-area at 100, and inter-area at 15
abbrev pub intra_100 : Offer
intra_100 = record (offer_of Intra 0 2 0) { prefix = network_24 198 51 100; cost = 100 }

abbrev pub inter_15 : Offer
inter_15 = record (offer_of Inter 0 4 0) { prefix = network_24 198 51 100; cost = 15 }

abbrev pub two_kinds : List Offer
two_kinds = inter_15 ∷ intra_100 ∷ []

abbrev pub within_100 : Route
within_100 = record (route_to Intra 0 2 0) { prefix = network_24 198 51 100; cost = 100 }

pub record WorkedOffers : Type 0 where
  -- the tag is 3
  pub least_tag : AreRoutesAmong (λ o. Contains two_tags o) (route_to External1 0 2 3 ∷ [])
  -- only the nearer one
  pub nearer : AreRoutesAmong (λ o. Contains two_distances o) (route_to External2 10 2 0 ∷ [])
  -- only the one with the lesser metric, although it is farther
  pub metric_first : AreRoutesAmong (λ o. Contains two_metrics o) (by_metric_10 ∷ [])
  -- only the intra-area one, although its cost is greater
  pub within_first : AreRoutesAmong (λ o. Contains two_kinds o) (within_100 ∷ [])
