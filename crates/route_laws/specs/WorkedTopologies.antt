-- Worked topologies (RFC 2328, sections 11, 16.1 and 16.4): three routers in a row, along which a
-- packet is forwarded, also past a default route; three cases in which packets do come back: the
-- databases differ, a link leads elsewhere than the routers know, and two interfaces of a router
-- have the same address; and one in which a packet is lost: an interface has cost 0.
use Rattle.std.specs.Prelude.{◌≢◌, ℕ, ◌&&◌, Bool, List, [], ◌∷◌, Option, Some, None, map, nat_eq}
use Rattle.std.specs.Prelude.{if◌then◌else◌}
use Rattle.std.specs.FinMap as finite
use Rattle.std.specs.FinSet as set
use Rattle.words.specs.Numbers.{RouterNumber}
use Rattle.words.specs.Prefixes.{Network}
use Rattle.words.specs.declared.key.Key.{Key}
use Rattle.words.specs.declared.route.ExternalType.TheVariants.{Type1}
use Rattle.words.specs.declared.route.Route.{Route}
use Rattle.words.specs.declared.route.RouteKind.TheVariants.{External1, Intra}
use Rattle.lsa.specs.declared.body.ExternalLsa.{ExternalLsa}
use Rattle.lsdb.specs.Copies.{DatabaseCopy}
use Rattle.adjacency.specs.Neighbors.{Neighbor, fresh}
use Rattle.adjacency.specs.declared.interface.Interface.{Interface}
use Rattle.adjacency.specs.declared.state.NeighborState.TheVariants.{Full}
use Rattle.event_rules.specs.Originations.{router_body, router_key}
use Rattle.route_laws.specs.Premises.{HaveCosts, HaveOwnAddresses}
use Rattle.candidates.specs.Borders.{IsLongest}
use Rattle.received.specs.Links.{Link}
use Rattle.route_laws.specs.Worked.{Entries, copy_of, database, ipv4, network_24, of_external}
use Rattle.route_laws.specs.WorkedExternals.{external}
use Rattle.route_laws.specs.Networks.{IsThere}
use Rattle.route_laws.specs.Topologies.{AreJoined, AreUpToDate, Forwarder, HandsTo}
use Rattle.route_laws.specs.Topologies.{HasConverged}
use Rattle.route_laws.specs.Topologies.{IsCurrentForwarder, IsHandedAlong, IsUpToDate}
use Rattle.route_laws.specs.Topologies.{HaveSameContents, StandsAt, TellsOf, Topology, says_of}

-- ---- three routers in a row, on links with cost 5; the interface of the left one is in
-- 192.0.2.0/23, that of the right one in 192.0.2.0/24, and both of the middle one in 10.0.0.0/24

abbrev pub interface_at : (address length : ℕ) → Interface
interface_at address length = record {
  address = address;
  length = length;
  cost = 5;
  hello_interval = 10;
  dead_interval = 40;
  retransmit_interval = 5;
  delay = 1;
}

-- a neighbor that is Full, with empty lists
abbrev pub full : RouterNumber → Neighbor
full router = record (fresh router None 0) { state = Full }

abbrev pub link_with : Interface → Option Neighbor → Link
link_with interface neighbor = record {
  interface = interface;
  neighbor = neighbor;
  acknowledgments = finite.empty;
  last_hello_sent = None;
}

abbrev pub left_id : RouterNumber
left_id = ipv4 1 1 1 1

abbrev pub middle_id : RouterNumber
middle_id = ipv4 2 2 2 2

abbrev pub right_id : RouterNumber
right_id = ipv4 3 3 3 3

abbrev pub left_links : List Link
left_links = link_with (interface_at (ipv4 192 0 3 1) 23) (Some (full middle_id)) ∷ []

abbrev pub middle_links : List Link
middle_links =
    link_with (interface_at (ipv4 10 0 0 1) 24) (Some (full left_id))
    ∷ link_with (interface_at (ipv4 10 0 0 2) 24) (Some (full right_id)) ∷ []

abbrev pub right_links : List Link
right_links = link_with (interface_at (ipv4 192 0 2 1) 24) (Some (full middle_id)) ∷ []

-- the copy of the router-LSA for these links
abbrev pub its_copy : RouterNumber → List Link → Key × DatabaseCopy
its_copy router links = (router_key router, copy_of (router_key router) (router_body links))

abbrev pub row : Entries
row =
    its_copy left_id left_links ∷ its_copy middle_id middle_links ∷ its_copy right_id right_links
    ∷ []

-- ---- their routes

abbrev pub within : Network → ℕ → ℕ → Route
within network cost hops =
    record { prefix = network; kind = Intra; cost = cost; distance = 0; hops = hops; tag = 0 }

abbrev pub wide_network : Network
wide_network = record { address = ipv4 192 0 2 0; length = 23 }

abbrev pub between : ℕ → ℕ → Route
between = within (network_24 10 0 0)

abbrev pub wide : ℕ → ℕ → Route
wide = within wide_network

abbrev pub narrow : ℕ → ℕ → Route
narrow = within (network_24 192 0 2)

abbrev pub left_routes : List Route
left_routes = between 10 2 ∷ wide 5 1 ∷ narrow 15 2 ∷ []

abbrev pub middle_routes : List Route
middle_routes = between 5 1 ∷ wide 10 2 ∷ narrow 10 4 ∷ []

abbrev pub right_routes : List Route
right_routes = between 10 2 ∷ wide 15 2 ∷ narrow 5 1 ∷ []

-- ---- the routers

-- a router with this database, whose program let in these routes
abbrev pub forwarder : RouterNumber → List Link → Entries → List Route → Forwarder
forwarder id links entries routes = record {
  router = record {
    id = id;
    area = record { links = links; database = database entries };
    announced = finite.empty;
    waiting = set.empty;
    originated = finite.empty;
    answers = map (λ (route : Route). (route, 0)) routes;
    moment = 0;
  };
  table = routes;
}

abbrev pub left : Forwarder
left = forwarder left_id left_links row left_routes

abbrev pub middle : Forwarder
middle = forwarder middle_id middle_links row middle_routes

abbrev pub right : Forwarder
right = forwarder right_id right_links row right_routes

abbrev pub is_at : ℕ → ℕ → ℕ → ℕ → Bool
is_at place interface this that = nat_eq place this && nat_eq interface that

-- interface 1 of the left and of the right router leads to the middle one, interface 1 of that to
-- the left one, and interface 2 to the router with this index
abbrev pub across_row : (second : ℕ) → (place interface : ℕ) → Option ℕ
across_row second place interface =
    if is_at place interface 0 1 then Some 1
    else if is_at place interface 1 1 then Some 0
    else if is_at place interface 1 2 then Some second
    else if is_at place interface 2 1 then Some 1
    else None

abbrev pub in_a_row : Topology
in_a_row = record { routers = left ∷ middle ∷ right ∷ []; across = across_row 2 }

-- an address in both networks
abbrev pub address : ℕ
address = ipv4 192 0 2 5

pub record WorkedTopology : Type 0 where
  pub converged : HasConverged in_a_row
  pub handed_along : IsHandedAlong in_a_row address (0 ∷ 1 ∷ 2 ∷ [])
  pub is_there : IsThere in_a_row address 2

-- ---- the same routers; the middle one announces a default route with metric 20

abbrev pub default_prefix : Network
default_prefix = record { address = 0; length = 0 }

abbrev pub default_lsa : ExternalLsa
default_lsa = record (external Type1 20 0 0) { mask = 0 }

abbrev pub with_default_lsa : Entries
with_default_lsa =
    its_copy left_id left_links ∷ its_copy middle_id middle_links ∷ its_copy right_id right_links
    ∷ of_external 0 middle_id default_lsa ∷ []

-- by the middle router, at the other end of interface 1
abbrev pub default_route : Route
default_route = record {
  prefix = default_prefix;
  kind = External1;
  cost = 25;
  distance = 0;
  hops = 2;
  tag = 0;
}

abbrev pub default_left : Forwarder
default_left = forwarder left_id left_links with_default_lsa (default_route ∷ left_routes)

abbrev pub default_middle : Forwarder
default_middle = forwarder middle_id middle_links with_default_lsa middle_routes

abbrev pub default_right : Forwarder
default_right = forwarder right_id right_links with_default_lsa (default_route ∷ right_routes)

abbrev pub around_a_default : Topology
around_a_default = record {
  routers = default_left ∷ default_middle ∷ default_right ∷ [];
  across = across_row 2;
}

-- The middle router advertises a destination that contains each address, but forwards the packet by
-- its longer route, and it arrives: so the laws cover what happens to it after that router.
pub record DefaultRoutesAreNoEnd : Type 0 where
  pub converged : HasConverged around_a_default
  pub tells : TellsOf (says_of default_middle.router) middle_id address default_prefix
  pub handed_along : IsHandedAlong around_a_default address (0 ∷ 1 ∷ 2 ∷ [])
  pub is_there : IsThere around_a_default address 2

-- ---- the same routers; the second interface of the middle one is connected to the left one

abbrev pub crossed_row : Topology
crossed_row = record in_a_row { across = across_row 0 }

-- the middle router sends the packet by the interface on which it knows the right one, and it comes
-- back to the left one
pub record CrossedLinksMayLoop : Type 0 where
  pub up_to_date : AreUpToDate crossed_row
  pub agree : HaveSameContents crossed_row
  pub comes_back : IsHandedAlong crossed_row address (0 ∷ 1 ∷ 0 ∷ [])

-- ---- the left and the middle router; the middle one has restarted, and doesn't have the right one
-- as neighbor yet

abbrev pub anew_links : List Link
anew_links =
    link_with (interface_at (ipv4 10 0 0 1) 24) (Some (full left_id))
    ∷ link_with (interface_at (ipv4 10 0 0 2) 24) None ∷ []

-- the left router hasn't received the new router-LSA yet, nor the middle one that of the right one
abbrev pub anew : Entries
anew = its_copy left_id left_links ∷ its_copy middle_id anew_links ∷ []

abbrev pub anew_routes : List Route
anew_routes = between 5 1 ∷ wide 10 2 ∷ []

abbrev pub differing : Topology
differing = record {
  routers = left ∷ forwarder middle_id anew_links anew anew_routes ∷ [];
  across = across_row 2;
}

-- the left router sends the packet to the middle one by the smaller network, and the middle one
-- sends it back by the larger, the only one that it knows
pub record DifferingDatabasesMayLoop : Type 0 where
  pub up_to_date : AreUpToDate differing
  pub joined : AreJoined differing
  pub comes_back : IsHandedAlong differing address (0 ∷ 1 ∷ 0 ∷ [])

-- ---- the same routers in a row; both interfaces of the middle one have the same address

abbrev pub equal_links : List Link
equal_links =
    link_with (interface_at (ipv4 10 0 0 1) 24) (Some (full left_id))
    ∷ link_with (interface_at (ipv4 10 0 0 1) 24) (Some (full right_id)) ∷ []

abbrev pub equal : Entries
equal =
    its_copy left_id left_links ∷ its_copy middle_id equal_links ∷ its_copy right_id right_links
    ∷ []

-- each of its two links uses both interfaces, since its address is that of both
abbrev pub equal_routes : List Route
equal_routes = between 5 1 ∷ wide 10 6 ∷ narrow 10 6 ∷ []

abbrev pub equal_middle : Forwarder
equal_middle = forwarder middle_id equal_links equal equal_routes

abbrev pub with_equal_addresses : Topology
with_equal_addresses = record {
  routers =
      forwarder left_id left_links equal left_routes ∷ equal_middle
      ∷ forwarder right_id right_links equal right_routes ∷ [];
  across = across_row 2;
}

-- the middle router knows the right one by both interfaces, and sends the packet by the first one,
-- back to the left router
pub record EqualAddressesMayLoop : Type 0 where
  -- for the middle router, all assumptions except that its interfaces have different addresses
  pub is_current : IsCurrentForwarder equal_middle
  pub costs : HaveCosts equal_links
  pub others : (place : ℕ) (other : Forwarder) → StandsAt with_equal_addresses place other
      → place ≢ 1 → IsUpToDate other
  pub agree : HaveSameContents with_equal_addresses
  pub joined : AreJoined with_equal_addresses
  pub comes_back : IsHandedAlong with_equal_addresses address (0 ∷ 1 ∷ 0 ∷ [])

-- ---- the same routers in a row; the interface of the left one has cost 0

abbrev pub zero_links : List Link
zero_links =
    link_with (record (interface_at (ipv4 192 0 3 1) 23) { cost = 0 }) (Some (full middle_id))
    ∷ []

-- 203.0.113.0/24 with metric 20, which the right router announces with a forwarding address in the
-- network of the left one
abbrev pub abroad_lsa : ExternalLsa
abroad_lsa = external Type1 20 (ipv4 192 0 3 9) 0

abbrev pub zero_cost : Entries
zero_cost =
    its_copy left_id zero_links ∷ its_copy middle_id middle_links ∷ its_copy right_id right_links
    ∷ of_external (ipv4 203 0 113 0) right_id abroad_lsa ∷ []

-- its only link has metric 0, which doesn't count: the left router knows only its own network
abbrev pub zero_left : Forwarder
zero_left = forwarder left_id zero_links zero_cost (wide 0 1 ∷ [])

-- by the way to the forwarding address
abbrev pub abroad : Route
abroad = record {
  prefix = network_24 203 0 113;
  kind = External1;
  cost = 25;
  distance = 0;
  hops = 2;
  tag = 0;
}

-- the link to the left router has a metric in the other direction, in which it counts
abbrev pub zero_middle : Forwarder
zero_middle =
    forwarder middle_id middle_links zero_cost (between 5 1 ∷ wide 5 2 ∷ narrow 10 4 ∷ abroad ∷ [])

abbrev pub zero_right : Forwarder
zero_right = forwarder right_id right_links zero_cost (between 10 2 ∷ wide 10 2 ∷ narrow 5 1 ∷ [])

abbrev pub with_zero_cost : Topology
with_zero_cost =
    record { routers = zero_left ∷ zero_middle ∷ zero_right ∷ []; across = across_row 2 }

-- an address in 203.0.113.0/24
abbrev pub address_abroad : ℕ
address_abroad = ipv4 203 0 113 5

-- the middle router sends the packet to the left one, toward the forwarding address; that one has
-- no way to the right router, so no route for the packet, although the forwarding address is in its
-- own network: it doesn't forward the packet, and isn't its destination
pub record ZeroCostsMayLosePackets : Type 0 where
  -- for the left router, all assumptions except that its interface has a cost of at least 1
  pub is_current : IsCurrentForwarder zero_left
  pub addresses : HaveOwnAddresses zero_links
  pub others : (place : ℕ) (other : Forwarder) → StandsAt with_zero_cost place other
      → place ≢ 0 → IsUpToDate other
  pub agree : HaveSameContents with_zero_cost
  pub joined : AreJoined with_zero_cost
  pub has_route : IsLongest zero_middle.table address_abroad abroad
  pub handed_along : IsHandedAlong with_zero_cost address_abroad (1 ∷ 0 ∷ [])
  pub goes_no_further : (to : ℕ) → HandsTo with_zero_cost address_abroad 0 to → ⊥
  pub is_not_there : IsThere with_zero_cost address_abroad 0 → ⊥
