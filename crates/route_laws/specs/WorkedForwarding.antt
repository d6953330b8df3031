-- Worked examples of forwarding (RFC 2328, sections 11, 16.1 and 16.4): three routers in a row,
-- along which packets are forwarded in both directions; and three cases in which packets do come
-- back: a veto at only one router, a router-LSA with former addresses, and a router that announces
-- an external destination itself.
use Rattle.std.specs.Prelude.{ℕ, List, [], ◌∷◌, if◌then◌else◌, nat_eq, true}
use Rattle.words.specs.Prefixes.{Network}
use Rattle.words.specs.declared.route.ExternalType.TheVariants.{Type1}
use Rattle.words.specs.declared.route.Route.{Route}
use Rattle.words.specs.declared.route.RouteKind.TheVariants.{External1, Intra}
use Rattle.lsa.specs.declared.body.RouterLink.{RouterLink}
use Rattle.candidates.specs.Borders.{IsLongest}
use Rattle.route_laws.specs.Worked.{Entries, database, ipv4, mask_24, network_24, of_router}
use Rattle.route_laws.specs.Worked.{of_external, point_to_point, stub}
use Rattle.route_laws.specs.WorkedExternals.{external}
use Rattle.routes.specs.Candidates.{AreCandidates}
use Rattle.routes.specs.Contents.{Contents, contents_at}
use Rattle.routes.specs.Tables.{IsTable}
use Rattle.routes.specs.declared.root.Root.{Root}
use Rattle.route_laws.specs.Forwarding.{AreRouters, ForwardsFor, ForwardsTo, HandsOn, IsPassedOn}
use Rattle.route_laws.specs.Forwarding.{NamesItsInterfaces, Stop}
use Rattle.route_laws.specs.Outward.{AreBoundariesPlain, HandsToward, IsPassedFurther}
use Rattle.route_laws.specs.Outward.{IsTheLast}

-- ---- three routers in a row, with links with cost 5 between them, the left one with the network
-- 192.0.2.0/23 and the right one with 192.0.2.0/24, both by stub links with cost 10; both announce
-- 203.0.113.0/24, the left one with metric 10 and the right one with metric 20

abbrev pub left : Root
left = record { router = ipv4 1 1 1 1; addresses = ipv4 10 0 1 1 ∷ [] }

abbrev pub middle : Root
middle = record { router = ipv4 2 2 2 2; addresses = ipv4 10 0 1 2 ∷ ipv4 10 0 2 1 ∷ [] }

abbrev pub right : Root
right = record { router = ipv4 3 3 3 3; addresses = ipv4 10 0 2 2 ∷ [] }

abbrev pub left_links : List RouterLink
left_links =
    point_to_point (ipv4 2 2 2 2) (ipv4 10 0 1 1) 5
    ∷ stub (ipv4 192 0 2 0) (ipv4 255 255 254 0) 10 ∷ []

abbrev pub middle_links : List RouterLink
middle_links =
    point_to_point (ipv4 1 1 1 1) (ipv4 10 0 1 2) 5
    ∷ point_to_point (ipv4 3 3 3 3) (ipv4 10 0 2 1) 5 ∷ []

abbrev pub right_links : List RouterLink
right_links =
    point_to_point (ipv4 2 2 2 2) (ipv4 10 0 2 2) 5 ∷ stub (ipv4 192 0 2 0) mask_24 10 ∷ []

abbrev pub row : Entries
row =
    of_router (ipv4 1 1 1 1) left_links ∷ of_router (ipv4 2 2 2 2) middle_links
    ∷ of_router (ipv4 3 3 3 3) right_links
    ∷ of_external (ipv4 203 0 113 0) (ipv4 1 1 1 1) (external Type1 10 0 0)
    ∷ of_external (ipv4 203 0 113 0) (ipv4 3 3 3 3) (external Type1 20 0 0)
    ∷ []

abbrev pub row_says : Contents
row_says = contents_at 0 (database row)

-- the routes to the three networks, with these costs and next hops

abbrev pub wide_network : Network
wide_network = record { address = ipv4 192 0 2 0; length = 23 }

abbrev pub wide : ℕ → ℕ → Route
wide cost hops =
    record { prefix = wide_network; kind = Intra; cost = cost; distance = 0; hops = hops; tag = 0 }

abbrev pub narrow_network : Network
narrow_network = network_24 192 0 2

abbrev pub narrow : ℕ → ℕ → Route
narrow cost hops =
    record (wide cost hops) { prefix = narrow_network }

abbrev pub abroad_network : Network
abroad_network = network_24 203 0 113

abbrev pub abroad : ℕ → ℕ → Route
abroad cost hops = record {
  prefix = abroad_network;
  kind = External1;
  cost = cost;
  distance = 0;
  hops = hops;
  tag = 0;
}

abbrev pub left_routes : List Route
left_routes = wide 10 1 ∷ narrow 20 2 ∷ abroad 30 2 ∷ []

abbrev pub middle_routes : List Route
middle_routes = wide 15 2 ∷ narrow 15 4 ∷ abroad 15 2 ∷ []

abbrev pub right_routes : List Route
right_routes = wide 20 2 ∷ narrow 10 1 ∷ abroad 20 2 ∷ []

abbrev pub at_router : Root → Route → Stop
at_router root route = record { root = root; route = route }

abbrev pub to_the_right : List Stop
to_the_right =
    at_router left (narrow 20 2) ∷ at_router middle (narrow 15 4) ∷ at_router right (narrow 10 1)
    ∷ []

abbrev pub to_the_left : List Stop
to_the_left =
    at_router right (wide 20 2) ∷ at_router middle (wide 15 2) ∷ at_router left (wide 10 1) ∷ []

abbrev pub row_routers : List Root
row_routers = left ∷ middle ∷ right ∷ []

abbrev pub row_table : Root → List Route
row_table root =
    if nat_eq root.router left.router then left_routes
    else if nat_eq root.router middle.router then middle_routes
    else right_routes

pub record WorkedRow : Type 0 where
  pub at_left : AreCandidates row_says left left_routes
  pub at_middle : AreCandidates row_says middle middle_routes
  pub at_right : AreCandidates row_says right right_routes
  pub routers : AreRouters row_says row_routers row_table
  pub boundaries : AreBoundariesPlain row_says
  pub rightward : IsPassedOn row_says (ForwardsFor row_says narrow_network) to_the_right
  pub leftward : IsPassedOn row_says (ForwardsFor row_says wide_network) to_the_left
  -- to 192.0.2.5, which is in both networks
  pub by_address : IsPassedOn row_says
      (ForwardsTo row_says (λ network. true) (ipv4 192 0 2 5)) to_the_right
  -- to the same address, if only networks of 512 addresses are let in
  pub by_wide : IsPassedOn row_says
      (ForwardsTo row_says (λ network. nat_eq network.length 23) (ipv4 192 0 2 5)) to_the_left
  -- from the right router by the middle one to the left one, whose metric is less
  pub outward : IsPassedFurther row_says abroad_network
      (at_router right (abroad 20 2) ∷ at_router middle (abroad 15 2) ∷ [])
  pub to_originator : IsTheLast row_says (at_router middle (abroad 15 2))

-- ---- the same three routers, if the middle one's program doesn't let in its route to 192.0.2.0/24

abbrev pub without_narrow : List Route
without_narrow = wide 15 2 ∷ abroad 15 2 ∷ []

-- the left router sends a packet to 192.0.2.5 to the middle one, which sends it back, although both
-- databases say the same
pub record VetoesMayLoop : Type 0 where
  pub left_table : IsTable row_says left
      ((wide 10 1, 0) ∷ (narrow 20 2, 0) ∷ (abroad 30 2, 0) ∷ []) left_routes
  pub middle_table : IsTable row_says middle
      ((wide 15 2, 0) ∷ (narrow 15 4, 1) ∷ (abroad 15 2, 0) ∷ []) without_narrow
  pub forth : IsLongest left_routes (ipv4 192 0 2 5) (narrow 20 2)
  pub to_middle : HandsOn row_says left (narrow 20 2) middle.router
  pub back : IsLongest without_narrow (ipv4 192 0 2 5) (wide 15 2)
  pub to_left : HandsOn row_says middle (wide 15 2) left.router

-- ---- the same three routers, if the middle one has another address toward the right one than in
-- its router-LSA

abbrev pub renumbered_middle : Root
renumbered_middle = record middle { addresses = ipv4 10 0 1 2 ∷ ipv4 10 0 9 1 ∷ [] }

-- the middle router's link to the right one counts for the left router but not for itself, so that
-- a packet to 192.0.2.5 goes back and forth between the two
pub record StaleRouterLsasMayLoop : Type 0 where
  pub stale : NamesItsInterfaces row_says renumbered_middle → ⊥
  pub at_left : AreCandidates row_says left left_routes
  pub at_middle : AreCandidates row_says renumbered_middle without_narrow
  pub forth : IsLongest left_routes (ipv4 192 0 2 5) (narrow 20 2)
  pub to_middle : HandsOn row_says left (narrow 20 2) renumbered_middle.router
  pub back : IsLongest without_narrow (ipv4 192 0 2 5) (wide 15 2)
  pub to_left : HandsOn row_says renumbered_middle (wide 15 2) left.router

-- ---- the same three routers, if the left one forwards by OSPF only

-- The left router ignores its own AS-external-LSA, and sends a packet for 203.0.113.0/24 to the
-- middle one, toward the right one; the middle one sends it back, toward the left one.
pub record OriginatorsMayGetPacketsBack : Type 0 where
  pub toward_right : HandsToward row_says left (abroad 30 2) middle.router right.router
  pub passed_on : IsPassedFurther row_says abroad_network
      (at_router left (abroad 30 2) ∷ at_router middle (abroad 15 2) ∷ [])
  pub toward_left : HandsToward row_says middle (abroad 15 2) left.router left.router
