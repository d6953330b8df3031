-- Running routers, the links between them, and how they forward packets by their routing tables
-- (RFC 2328, section 11). What the laws of forwarding assume about them.
use Rattle.std.specs.Prelude.{◌≡◌, ◌≢◌, ◌⊎◌, ℕ, ◌<◌, IsTrue, List, [], ◌∷◌, Option, Some, slice_get}
use Rattle.words.specs.Interfaces.{has_interface}
use Rattle.words.specs.Numbers.{InterfaceNumber, RouterNumber}
use Rattle.words.specs.Prefixes.{IsUnder, Network}
use Rattle.words.specs.declared.key.Key.{Key}
use Rattle.words.specs.declared.route.Route.{Route}
use Rattle.words.specs.declared.route.RouteKind.TheVariants.{Inter, Intra}
use Rattle.lsa.specs.declared.body.LsaBody.TheVariants as body
use Rattle.lsa.specs.declared.body.ExternalLsa.{ExternalLsa}
use Rattle.adjacency.specs.Neighbors.{Neighbor, is_full}
use Rattle.area_routes.specs.Offers.{IsTableOf, root_by}
use Rattle.event_rules.specs.Routers.{Router}
use Rattle.candidates.specs.Borders.{IsLongest}
use Rattle.received.specs.Links.{neighbor_at}
use Rattle.routes.specs.Links.{Says}
use Rattle.routes.specs.Offers.{IsPrefix}
use Rattle.routes.specs.Contents.{Contents, contents_at}
use Rattle.routes.specs.declared.root.Root.{Root}
use Rattle.route_laws.specs.Laws.{LetsAllIn}
use Rattle.route_laws.specs.Premises.{HaveCosts, HaveOwnAddresses, IsCurrent}

-- ---- routers and links

-- a router, and the routing table by which it forwards packets
pub record Forwarder : Type 0 where
  pub router : Router
  pub table : List Route

-- Routers, each with an index, and the links between them: from a router's index and one of its
-- interfaces to the index of the router at the other end.
pub record Topology : Type 0 where
  pub routers : List Forwarder
  pub across : (place : ℕ) → InterfaceNumber → Option ℕ

abbrev pub StandsAt : Topology → ℕ → Forwarder → Type 0
StandsAt topology place forwarder = slice_get topology.routers place ≡ Some forwarder

-- what the LSAs of its database say at the moment of its last event
abbrev pub says_of : Router → Contents
says_of router = contents_at router.moment router.area.database

-- the root of its walks
abbrev pub root_of : Router → Root
root_of router = root_by router.id router.area.links

-- ---- the assumptions of the laws

abbrev pub external_key : ℕ → RouterNumber → Key
external_key id router =
    record { ls_type = 5; link_state_id = id; advertising_router = router }

-- its LSAs and its table are up to date
pub record IsCurrentForwarder (forwarder : Forwarder) : Type 0 where
  -- its database has the router-LSA for its present interfaces and neighbors
  pub current : (let router = forwarder.router in
      IsCurrent (says_of router) router.id router.area.links)
  -- its table is that of its candidates and its program's answers, which `Core::rows` returns
  -- (`IsTableNow` in `flood`)
  pub is_table : (let router = forwarder.router in
      IsTableOf router.id router.area router.moment router.answers forwarder.table)
  -- which let in each candidate
  pub let_in : (let router = forwarder.router in
      LetsAllIn (says_of router) (root_of router) router.answers)

-- the assumptions about each router by itself
pub record IsUpToDate (forwarder : Forwarder) : Type 0 where
  pub is_current : IsCurrentForwarder forwarder
  -- no two of its interfaces have the same address, and each has a cost of at least 1, as in each
  -- valid configuration
  pub addresses : HaveOwnAddresses forwarder.router.area.links
  pub costs : HaveCosts forwarder.router.area.links

-- the router at the other end of the interface has this Router ID
pub record IsAcross (topology : Topology) (place : ℕ) (interface : InterfaceNumber)
    (router : RouterNumber) : Type 0 where
  pub other : ℕ
  pub is_across : topology.across place interface ≡ Some other
  pub forwarder : Forwarder
  pub stands : StandsAt topology other forwarder
  pub is : forwarder.router.id ≡ router

-- the Full neighbor on each interface is the router at its other end
abbrev pub AreJoined : Topology → Type 0
AreJoined topology =
    (place : ℕ) (forwarder : Forwarder) → StandsAt topology place forwarder
    → (interface : InterfaceNumber) (neighbor : Neighbor)
    → neighbor_at interface forwarder.router.area.links ≡ Some neighbor
    → IsTrue (is_full neighbor.state) → IsAcross topology place interface neighbor.router

abbrev pub AreUpToDate : Topology → Type 0
AreUpToDate topology =
    (place : ℕ) (forwarder : Forwarder) → StandsAt topology place forwarder → IsUpToDate forwarder

-- the databases of all routers say the same, each at its own moment
abbrev pub HaveSameContents : Topology → Type 0
HaveSameContents topology =
    (place other : ℕ) (a b : Forwarder) → StandsAt topology place a → StandsAt topology other b
    → (key : Key) → says_of a.router key ≡ says_of b.router key

pub record HasConverged (topology : Topology) : Type 0 where
  pub up_to_date : AreUpToDate topology
  pub agree : HaveSameContents topology
  pub joined : AreJoined topology

-- ---- forwarding

-- The first router forwards packets to the address to the second: by a next hop, except 0, of the
-- longest match in its table.
pub record HandsTo (topology : Topology) (address : ℕ) (from to : ℕ) : Type 0 where
  pub forwarder : Forwarder
  pub stands : StandsAt topology from forwarder
  pub route : Route
  pub longest : IsLongest forwarder.table address route
  pub interface : InterfaceNumber
  pub away : 0 < interface
  pub is_hop : IsTrue (has_interface route.hops interface)
  pub is_across : topology.across from interface ≡ Some to

-- a self-originated AS-external-LSA of the router advertises this destination, which contains the
-- address, with a metric below LSInfinity
pub record TellsOf (contents : Contents) (router : RouterNumber) (address : ℕ) (prefix : Network)
    : Type 0
  where
    pub id : ℕ
    pub lsa : ExternalLsa
    pub its : Says contents (external_key id router) (body.External lsa)
    pub reachable : lsa.metric < 16777215
    pub is_prefix : IsPrefix id lsa.mask prefix
    pub under : IsUnder address prefix

-- what a router announces takes precedence over its route: it has a longer prefix, or one of the
-- same length and the route is external
abbrev pub ComesBefore : Network → Route → Type 0
ComesBefore prefix route =
    (route.prefix.length < prefix.length)
    ⊎ ((route.prefix.length ≡ prefix.length) × (route.kind ≢ Intra) × (route.kind ≢ Inter))

-- The router announces the address, and forwards no packet to it by a better route of its own. So a
-- router that announces a default route isn't the end for packets for which it has a longer route.
pub record Announces (forwarder : Forwarder) (address : ℕ) : Type 0 where
  pub prefix : Network
  pub tells : TellsOf (says_of forwarder.router) forwarder.router.id address prefix
  pub before : (route : Route) → IsLongest forwarder.table address route
      → ComesBefore prefix route

-- the router with this index announces the address itself
pub record IsAnnouncedAt (topology : Topology) (address place : ℕ) : Type 0 where
  pub forwarder : Forwarder
  pub stands : StandsAt topology place forwarder
  pub announces : Announces forwarder address

-- Each router except the last forwards the packet to the next one, and doesn't announce the address
-- itself.
abbrev pub IsHandedAlong : Topology → ℕ → List ℕ → Type 0
IsHandedAlong topology address [] = Unit {0}
IsHandedAlong topology address (last ∷ []) = Unit {0}
IsHandedAlong topology address (from ∷ to ∷ others) =
    HandsTo topology address from to × (IsAnnouncedAt topology address from → ⊥)
    × IsHandedAlong topology address (to ∷ others)
