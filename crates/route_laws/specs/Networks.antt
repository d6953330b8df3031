-- Routers whose databases say the same don't forward packets in a loop, and the packets arrive (RFC
-- 2328, sections 11, 16.1 and 16.4).
use Rattle.std.specs.Prelude.{◌≡◌, ◌≢◌, ℕ, ◌≤◌, IsTrue, List, [], ◌∷◌, Some, length}
use Rattle.std.specs.List.{AllPairs}
use Rattle.words.specs.Interfaces.{has_interface}
use Rattle.words.specs.Numbers.{InterfaceNumber}
use Rattle.words.specs.Prefixes.{IsUnder, Network}
use Rattle.words.specs.declared.route.Route.{Route}
use Rattle.candidates.specs.Borders.{IsLongest}
use Rattle.routes.specs.Candidates.{IsBest, OffersExternal}
use Rattle.routes.specs.Offers.{Attaches}
use Rattle.routes.specs.declared.node.Node.TheVariants.{ARouter}
use Rattle.routes.specs.declared.offer.Offer.{Offer}
use Rattle.route_laws.specs.Outward.{IsBetter}
use Rattle.route_laws.specs.Topologies.{Forwarder, HandsTo, HasConverged, IsAnnouncedAt}
use Rattle.route_laws.specs.Topologies.{IsHandedAlong, StandsAt, Topology, root_of}
use Rattle.route_laws.specs.Topologies.{says_of}

-- ---- one hop

-- the router is attached by a stub link of its own: to the network of the route, at the route's
-- cost, or to that of the forwarding address of an AS-external-LSA from which the route comes
pub data IsAttached (forwarder : Forwarder) (route : Route) : Type 0 where
  ToNetwork : Attaches (says_of forwarder.router) (ARouter forwarder.router.id) route.prefix
      route.cost → IsAttached forwarder route
  ToForwardingAddress : (offer : Offer)
      → IsBest (says_of forwarder.router) (root_of forwarder.router) route.prefix offer
      → (external : OffersExternal (says_of forwarder.router) (root_of forwarder.router) offer)
      → (prefix : Network) (cost : ℕ) → IsUnder external.lsa.forwarding prefix
      → Attaches (says_of forwarder.router) (ARouter forwarder.router.id) prefix cost
      → IsAttached forwarder route

-- what happens to a packet to the address that a router sends by this next hop of its route
pub data LeadsOn (topology : Topology) (address place : ℕ) (forwarder : Forwarder) (route : Route)
    (interface : InterfaceNumber) : Type 0 where
  -- 0 stands for the router itself, which is attached
  AtHome : interface ≡ 0 → IsAttached forwarder route
      → LeadsOn topology address place forwarder route interface
  -- the router at the other end forwards it by a better route with the same prefix
  Further : (to : ℕ) (next : Forwarder) (following : Route)
      → topology.across place interface ≡ Some to
      → StandsAt topology to next → IsLongest next.table address following
      → following.prefix ≡ route.prefix
      → IsBetter following route → LeadsOn topology address place forwarder route interface
  -- the router at the other end announces the address itself
  ToAnnouncer : (to : ℕ) → topology.across place interface ≡ Some to
      → IsAnnouncedAt topology address to
      → LeadsOn topology address place forwarder route interface

-- each next hop of a router that forwards packets to the address leads on, unless the router
-- announces the address itself
abbrev pub EachHopLeadsOn : Type 0
EachHopLeadsOn =
    (topology : Topology) → HasConverged topology → (address place : ℕ) (forwarder : Forwarder)
    → StandsAt topology place forwarder → (IsAnnouncedAt topology address place → ⊥)
    → (route : Route) → IsLongest forwarder.table address route
    → (interface : InterfaceNumber) → IsTrue (has_interface route.hops interface)
    → LeadsOn topology address place forwarder route interface

-- ---- many hops

pub record RoutersForwardWithoutLoops : Type 0 where
  -- a packet visits no router twice
  pub no_twice : (topology : Topology) → HasConverged topology → (address : ℕ) (places : List ℕ)
      → IsHandedAlong topology address places → AllPairs (λ (a : ℕ) (b : ℕ). a ≢ b) places
  -- so it visits at most as many routers as there are
  pub short : (topology : Topology) → HasConverged topology → (address first : ℕ)
      (others : List ℕ) (forwarder : Forwarder) → StandsAt topology first forwarder
      → IsHandedAlong topology address (first ∷ others)
      → length (first ∷ others) ≤ length topology.routers

-- ---- arrival

abbrev pub last_of : ℕ → List ℕ → ℕ
last_of place [] = place
last_of place (next ∷ others) = last_of next others

-- a packet to the address has arrived at the router with this index
pub data IsThere (topology : Topology) (address place : ℕ) : Type 0 where
  -- the router is attached, by its longest match
  Attached : (forwarder : Forwarder) → StandsAt topology place forwarder → (route : Route)
      → IsLongest forwarder.table address route → IsAttached forwarder route
      → IsThere topology address place
  -- the router announces the address itself
  Announced : IsAnnouncedAt topology address place → IsThere topology address place

-- If a router has a route for the address, whichever next hops are chosen: a router that doesn't
-- forward the packet is its destination. Since no path is longer than the number of routers, each
-- packet arrives.
abbrev pub PacketsArrive : Type 0
PacketsArrive =
    (topology : Topology) → HasConverged topology → (address first : ℕ) (others : List ℕ)
    (forwarder : Forwarder) → StandsAt topology first forwarder
    → (route : Route) → IsLongest forwarder.table address route
    → IsHandedAlong topology address (first ∷ others)
    → ((to : ℕ) → HandsTo topology address (last_of first others) to → ⊥)
    → IsThere topology address (last_of first others)
