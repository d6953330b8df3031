-- A worked database with external destinations (RFC 2328, section 16.4): by the advertising router
-- or by a forwarding address, of both types, and some that offer nothing.
use Rattle.std.specs.Prelude.{ℕ, [], ◌∷◌, ◌++◌}
use Rattle.words.specs.declared.key.Key.{Key}
use Rattle.words.specs.declared.route.ExternalType.{ExternalType}
use Rattle.words.specs.declared.route.ExternalType.TheVariants.{Type1, Type2}
use Rattle.words.specs.declared.route.Route.{Route}
use Rattle.words.specs.declared.route.RouteKind.TheVariants.{External1, External2}
use Rattle.lsa.specs.declared.body.ExternalLsa.{ExternalLsa}
use Rattle.lsdb.specs.Copies.{DatabaseCopy}
use Rattle.lsdb.specs.Headers.{lsa_with_age}
use Rattle.routes.specs.Candidates.{AreCandidates}
use Rattle.route_laws.specs.Worked.{Entries, database, ipv4, mask_24, near_router, network_24}
use Rattle.route_laws.specs.Worked.{next_network, of_external, own_network, two_routers}
use Rattle.routes.specs.Contents.{contents_at}

abbrev pub external : ExternalType → ℕ → ℕ → ℕ → ExternalLsa
external kind metric forwarding tag = record {
  mask = mask_24;
  kind = kind;
  metric = metric;
  forwarding = forwarding;
  tag = tag;
  tos = [];
}

-- advertised by the other one of the two routers
abbrev pub by_other : ℕ → ExternalLsa → Key × DatabaseCopy
by_other id lsa = of_external id (ipv4 2 2 2 2) lsa

-- the same copy at MaxAge
abbrev pub at_max_age : Key × DatabaseCopy → Key × DatabaseCopy
at_max_age e = (e.0, record e.1 { lsa = lsa_with_age 3600 e.1.lsa })

-- one network with both types, distinguished by the host bits of their Link State IDs; a forwarding
-- address in 10.0.2.0/24, which the other router offers at 15; one in 10.0.1.0/24, which both
-- offer, the nearer router itself at 10
abbrev pub announced_entries : Entries
announced_entries =
    by_other (ipv4 203 0 113 0) (external Type2 1 0 3)
    ∷ by_other (ipv4 203 0 113 1) (external Type1 20 0 4)
    ∷ by_other (ipv4 198 51 100 0) (external Type1 20 (ipv4 10 0 2 9) 5)
    ∷ by_other (ipv4 192 0 2 0) (external Type2 20 (ipv4 10 0 1 9) 6)
    ∷ []

-- no one offers the forwarding address; the metric is LSInfinity; it is this router's own; its
-- advertising router has no router-LSA; the copy is at MaxAge; the one bits of the mask aren't
-- leading
abbrev pub passed_over : Entries
passed_over =
    by_other (ipv4 198 18 0 0) (external Type1 20 (ipv4 172 16 0 1) 0)
    ∷ by_other (ipv4 198 18 1 0) (external Type1 16777215 0 0)
    ∷ of_external (ipv4 198 18 2 0) (ipv4 1 1 1 1) (external Type1 20 0 0)
    ∷ of_external (ipv4 198 18 3 0) (ipv4 9 9 9 9) (external Type1 20 0 0)
    ∷ at_max_age (by_other (ipv4 198 18 4 0) (external Type1 20 0 0))
    ∷ by_other (ipv4 198 18 5 0) (record (external Type1 20 0 0) { mask = ipv4 255 0 255 0 })
    ∷ []

abbrev pub destinations : Entries
destinations = two_routers (announced_entries ++ passed_over)

-- type 2: the metric is the cost, and the distance is that to the forwarding address, by the
-- router's own interface
abbrev pub by_own_network : Route
by_own_network = record {
  prefix = network_24 192 0 2;
  kind = External2;
  cost = 20;
  distance = 10;
  hops = 1;
  tag = 6;
}

-- type 1: the distance to the forwarding address plus the metric
abbrev pub by_next_network : Route
by_next_network = record {
  prefix = network_24 198 51 100;
  kind = External1;
  cost = 35;
  distance = 0;
  hops = 2;
  tag = 5;
}

-- type 1 at 30, although type 2 has metric 1
abbrev pub of_first_type : Route
of_first_type = record {
  prefix = network_24 203 0 113;
  kind = External1;
  cost = 30;
  distance = 0;
  hops = 2;
  tag = 4;
}

abbrev pub WorkedExternals : Type 0
WorkedExternals =
    AreCandidates (contents_at 0 (database destinations)) near_router
    (own_network ∷ next_network ∷ by_own_network ∷ by_next_network ∷ of_first_type ∷ [])
