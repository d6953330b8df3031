-- Forwarding to other areas and to external destinations, while the databases of all routers say
-- the same (RFC 2328, sections 11, 16.2 and 16.4): each hop leads to a better route, until the
-- packet reaches the router whose LSA the route comes from.
use Rattle.std.specs.Prelude.{◌≡◌, ◌≢◌, ℕ, ◌<◌, ◌≤◌, IsTrue, List, [], ◌∷◌, length}
use Rattle.std.specs.List.{All, AllPairs, Contains}
use Rattle.words.specs.Interfaces.{has_interface}
use Rattle.words.specs.Prefixes.{Network}
use Rattle.words.specs.declared.route.Route.{Route}
use Rattle.words.specs.declared.route.RouteKind.TheVariants.{Intra}
use Rattle.lsa.specs.declared.body.LsaBody.TheVariants as body
use Rattle.lsa.specs.declared.body.ExternalLsa.{ExternalLsa}
use Rattle.lsa.specs.declared.body.RouterLsa.{RouterLsa}
use Rattle.lsa.specs.declared.body.SummaryLsa.{SummaryLsa}
use Rattle.routes.specs.Candidates.{AreCandidates, IsBest, IsCandidate, OffersExternal}
use Rattle.routes.specs.Links.{IsRouterLsa, Leads, Says}
use Rattle.routes.specs.Offers.{Attaches, ReachesBoundaryRouter}
use Rattle.routes.specs.Paths.{IsWay, Way}
use Rattle.routes.specs.Routes.{rank}
use Rattle.routes.specs.Contents.{Contents}
use Rattle.routes.specs.Summaries.{IsAdvertised, OffersBetween, summary_key}
use Rattle.routes.specs.declared.node.Node.TheVariants.{ARouter}
use Rattle.routes.specs.declared.offer.Offer.{Offer}
use Rattle.routes.specs.declared.root.Root.{Root}
use Rattle.route_laws.specs.Forwarding.{AreRouters, ForwardsFor, HandsOn, IsOtherEnd}
use Rattle.route_laws.specs.Forwarding.{NamesItsInterfaces, Stop, last_of}

-- ---- one hop

-- the offer leads to this router, from whose LSA it comes, by these interfaces
pub data IsToward (contents : Contents) (root : Root) (offer : Offer) (router hops : ℕ) : Type
    0 where
  -- an area border router, which advertises the network in another area
  Border : (between : OffersBetween contents root offer) → between.originator ≡ router
      → hops ≡ offer.hops → IsToward contents root offer router hops
  -- an AS boundary router within the area, which advertises the destination without a forwarding
  -- address
  Boundary : (external : OffersExternal contents root offer) → external.originator ≡ router
      → external.lsa.forwarding ≡ 0
      → (way : Way) → ReachesBoundaryRouter contents root router way → hops ≡ offer.hops
      → IsToward contents root offer router hops
  -- an area border router, which advertises such an AS boundary router in another area; this area
  -- has no router-LSA of that
  Told : (external : OffersExternal contents root offer) → external.lsa.forwarding ≡ 0
      → ((lsa : RouterLsa) → IsRouterLsa contents external.originator lsa → ⊥) → (border : Way)
      → (advertised : IsAdvertised contents root external.originator
      external.is_way.boundary.distance border) → advertised.originator ≡ router
      → hops ≡ border.hops → IsToward contents root offer router hops

-- a router forwards packets to the next router by a route: by a next hop that the route has from
-- one of the best offers for the prefix, which leads to this originator
pub record HandsToward (contents : Contents) (root : Root) (route : Route) (next originator : ℕ)
    : Type 0
  where
    pub offer : Offer
    pub is_best : IsBest contents root route.prefix offer
    pub hops : ℕ
    pub toward : IsToward contents root offer originator hops
    pub interface : ℕ
    pub is_hop : IsTrue (has_interface hops interface)
    pub other_end : IsOtherEnd contents root interface next

-- by kind, then cost, then distance, strictly
pub data IsBetter (a b : Route) : Type 0 where
  ByKind : rank a.kind < rank b.kind → IsBetter a b
  ByCost : rank a.kind ≡ rank b.kind → a.cost < b.cost → IsBetter a b
  ByDistance : rank a.kind ≡ rank b.kind → a.cost ≡ b.cost → a.distance < b.distance → IsBetter a b

-- a property of each router that forwards packets toward an originator to the next router
abbrev pub OfEachHopToward : (Contents → Root → Route → Root → ℕ → Type 0) → Type 0
OfEachHopToward Holds =
    (contents : Contents) (root next : Root) (route : Route) (originator : ℕ)
    → IsCandidate contents root route → HandsToward contents root route next.router originator
    → NamesItsInterfaces contents next → Holds contents root route next originator

pub record EachHopLeadsToAnOriginator : Type 0 where
  -- the next router is nearer to the originator, or is the originator itself
  pub nearer : OfEachHopToward (λ contents root route next originator. (here there : Way)
      → IsWay (Leads contents root) (ARouter root.router) (ARouter originator) here
      → IsWay (Leads contents next) (ARouter next.router) (ARouter originator) there
      → there.distance < here.distance)
  -- unless it is the originator, its route with the same prefix is better
  pub better : OfEachHopToward (λ contents root route next originator. next.router ≢ originator
      → (following : Route) → IsCandidate contents next following → following.prefix ≡ route.prefix
      → IsBetter following route)
  -- and it has one
  pub has_one : OfEachHopToward (λ contents root route next originator. next.router ≢ originator
      → (routes : List Route) → AreCandidates contents next routes
      → (following : Route) × Contains routes following × (following.prefix ≡ route.prefix))

-- ---- many hops

-- a router forwards packets to one that isn't their end: within the area, or toward another router
pub data HandsFurther (contents : Contents) (root : Root) (route : Route) (next : ℕ) : Type 0 where
  InTheArea : route.kind ≡ Intra → HandsOn contents root route next
      → HandsFurther contents root route next
  TowardAnother : (originator : ℕ) → HandsToward contents root route next originator
      → next ≢ originator → HandsFurther contents root route next

-- each router forwards packets for the prefix to the next one
abbrev pub IsPassedFurther : Contents → Network → List Stop → Type 0
IsPassedFurther contents prefix [] = Unit {0}
IsPassedFurther contents prefix (last ∷ []) = ForwardsFor contents prefix last
IsPassedFurther contents prefix (stop ∷ next ∷ others) =
    ForwardsFor contents prefix stop × HandsFurther contents stop.root stop.route next.root.router
    × IsPassedFurther contents prefix (next ∷ others)

pub record NoPacketReturnsOnItsWayOut : Type 0 where
  -- each later route is better
  pub better : (contents : Contents) (prefix : Network) (stops : List Stop)
      → IsPassedFurther contents prefix stops
      → AllPairs (λ (a : Stop) (b : Stop). IsBetter b.route a.route) stops
  -- no root, a router with its addresses, is in the list twice
  pub no_twice : (contents : Contents) (prefix : Network) (stops : List Stop)
      → IsPassedFurther contents prefix stops
      → AllPairs (λ (a : Stop) (b : Stop). a.root ≢ b.root) stops

-- ---- arrival

-- AS-external-LSAs have no forwarding address, and an AS boundary router that a summary-LSA
-- advertises is in another area: this area has no router-LSA of it
pub record AreBoundariesPlain (contents : Contents) : Type 0 where
  pub direct : (id originator : ℕ) (lsa : ExternalLsa)
      → Says contents (record { ls_type = 5; link_state_id = id; advertising_router = originator })
      (body.External lsa) → lsa.forwarding ≡ 0
  pub elsewhere : (router originator : ℕ) (lsa : SummaryLsa)
      → Says contents (summary_key 4 router originator) (body.RouterSummary lsa)
      → (its : RouterLsa) → IsRouterLsa contents router its → ⊥

-- the last router on a packet's path is attached to the network, or forwards the packet to the
-- originator of the LSA that its route comes from
pub data IsTheLast (contents : Contents) (stop : Stop) : Type 0 where
  Attached : stop.route.kind ≡ Intra
      → Attaches contents (ARouter stop.root.router) stop.route.prefix stop.route.cost
      → IsTheLast contents stop
  BeforeTheOriginator : (originator : ℕ)
      → HandsToward contents stop.root stop.route originator originator → IsTheLast contents stop

-- routers that forward a packet up to the last one
pub record ArrivesOutside (contents : Contents) (first : Stop) : Type 0 where
  pub others : List Stop
  pub passed_on : IsPassedFurther contents first.route.prefix (first ∷ others)
  pub is_last : IsTheLast contents (last_of first others)

-- one of these routers, with a route for the prefix
pub record IsStopAmong (routers : List Root) (table : Root → List Route) (prefix : Network)
    (stop : Stop) : Type 0 where
  pub among : Contains routers stop.root
  pub has_route : Contains (table stop.root) stop.route
  pub is_for : stop.route.prefix ≡ prefix

-- a property of routers with the same database and tables of all their candidates
abbrev pub OfRouters : (Contents → List Root → (Root → List Route) → Type 0) → Type 0
OfRouters Holds =
    (contents : Contents) (routers : List Root) (table : Root → List Route)
    → AreRouters contents routers table → AreBoundariesPlain contents → Holds contents routers table

-- what happens to a packet that a router sends by this interface
pub data IsFollowed (contents : Contents) (routers : List Root) (table : Root → List Route)
    (stop : Stop)
    (interface : ℕ) : Type 0 where
  -- 0 stands for the router itself, which is attached to the network
  AtHome : interface ≡ 0
      → Attaches contents (ARouter stop.root.router) stop.route.prefix stop.route.cost
      → IsFollowed contents routers table stop interface
  -- the router at the other end has a route for the prefix
  Further : (next : Stop) → IsStopAmong routers table stop.route.prefix next
      → IsOtherEnd contents stop.root interface next.root.router
      → HandsFurther contents stop.root stop.route next.root.router
      → IsFollowed contents routers table stop interface
  -- the router at the other end is the originator
  AtTheOriginator : (originator : ℕ) → IsOtherEnd contents stop.root interface originator
      → HandsToward contents stop.root stop.route originator originator
      → IsFollowed contents routers table stop interface

-- packets for which a router has a route of any kind arrive
pub record AllPacketsArrive : Type 0 where
  -- by some path
  pub arrives : OfRouters (λ contents routers table. (prefix : Network) (first : Stop)
      → IsStopAmong routers table prefix first → ArrivesOutside contents first)
  -- and by each path, whichever next hops the routers choose: each of them leads on, or to the end
  pub each_hop : OfRouters (λ contents routers table. (prefix : Network) (stop : Stop)
      → IsStopAmong routers table prefix stop → (interface : ℕ)
      → IsTrue (has_interface stop.route.hops interface)
      → IsFollowed contents routers table stop interface)
  -- no path has more routers than there are
  pub short : OfRouters (λ contents routers table. (prefix : Network) (stops : List Stop)
      → IsPassedFurther contents prefix stops → All (IsStopAmong routers table prefix) stops
      → length stops ≤ length routers)
