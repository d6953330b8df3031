-- The router-LSA that a router originates satisfies the premises of the laws of forwarding (RFC
-- 2328, section 12.4.1).
use Rattle.std.specs.Prelude.{◌≡◌, ℕ, ◌<◌, IsTrue, List, Some, map, nat_le}
use Rattle.std.specs.List.{list_all}
use Rattle.words.specs.Interfaces.{has_interface}
use Rattle.words.specs.Numbers.{InterfaceNumber, RouterNumber}
use Rattle.words.specs.declared.route.Route.{Route}
use Rattle.lsa.specs.declared.body.RouterLink.{RouterLink}
use Rattle.lsa.specs.declared.body.LinkKind.TheVariants.{PointToPoint}
use Rattle.adjacency.specs.Neighbors.{Neighbor, is_full}
use Rattle.area_routes.specs.Offers.{root_by}
use Rattle.event_rules.specs.Originations.{router_body, router_key}
use Rattle.event_rules.specs.Routers.{are_distinct}
use Rattle.received.specs.Links.{Link, neighbor_at}
use Rattle.routes.specs.Candidates.{IsCandidate}
use Rattle.routes.specs.Links.{HasLink, LeadsTo, Says}
use Rattle.routes.specs.Contents.{Contents}
use Rattle.routes.specs.declared.node.Node.{Node}
use Rattle.routes.specs.declared.node.Node.TheVariants.{ARouter}
use Rattle.route_laws.specs.Forwarding.{IsOtherEnd, NamesItsInterfaces}

-- the database has the router-LSA for these interfaces and neighbors
abbrev pub IsCurrent : Contents → RouterNumber → List Link → Type 0
IsCurrent contents router links = Says contents (router_key router) (router_body links)

-- no two interfaces have the same address, as in each valid configuration
abbrev pub HaveOwnAddresses : List Link → Type 0
HaveOwnAddresses links = IsTrue (are_distinct (map (λ (link : Link). link.interface) links))

-- each interface has a cost of at least 1, as in each valid configuration
abbrev pub HaveCosts : List Link → Type 0
HaveCosts links = IsTrue (list_all (λ (link : Link). nat_le 1 link.interface.cost) links)

-- the target is the Full neighbor on the interface
pub record LeadsAlong (links : List Link) (interface : InterfaceNumber) (target : Node) : Type 0
  where
    pub neighbor : Neighbor
    pub is_on : neighbor_at interface links ≡ Some neighbor
    pub full : IsTrue (is_full neighbor.state)
    pub is_target : target ≡ ARouter neighbor.router

-- the interface has a Full neighbor, to which a link by it leads that counts
pub record IsNextHop (contents : Contents) (router : RouterNumber) (links : List Link)
    (interface : InterfaceNumber) : Type 0 where
  pub neighbor : Neighbor
  pub is_on : neighbor_at interface links ≡ Some neighbor
  pub full : IsTrue (is_full neighbor.state)
  pub cost : ℕ
  pub leads : LeadsTo contents (root_by router links) (ARouter router)
      (ARouter neighbor.router) cost
      interface

pub record OwnRouterLsasMeetThePremises : Type 0 where
  -- it names the router's interfaces
  pub own : (contents : Contents) (router : RouterNumber) (links : List Link)
      → IsCurrent contents router links → NamesItsInterfaces contents (root_by router links)
  -- its point-to-point links have a metric, so that they count
  pub not_free : (contents : Contents) (router : RouterNumber) (links : List Link)
      → IsCurrent contents router links → HaveCosts links → (link : RouterLink)
      → HasLink contents router link → link.kind ≡ PointToPoint → 0 < link.metric
  -- each of its links that counts leads to the Full neighbor on the interface that it uses
  pub leads : (contents : Contents) (router : RouterNumber) (links : List Link)
      → IsCurrent contents router links → HaveOwnAddresses links
      → (target : Node) (cost interface : ℕ)
      → LeadsTo contents (root_by router links) (ARouter router) target cost interface
      → LeadsAlong links interface target
  -- so the neighbor on an interface is the router at its other end
  pub other_end : (contents : Contents) (router : RouterNumber) (links : List Link)
      → IsCurrent contents router links → HaveOwnAddresses links
      → (interface : InterfaceNumber) (neighbor : Neighbor)
      → neighbor_at interface links ≡ Some neighbor
      → IsOtherEnd contents (root_by router links) interface neighbor.router
  -- and each next hop of each candidate, except 0, is an interface with a Full neighbor, to which a
  -- link by it leads that counts
  pub next_hops : (contents : Contents) (router : RouterNumber) (links : List Link)
      → IsCurrent contents router links → HaveOwnAddresses links
      → (route : Route) → IsCandidate contents (root_by router links) route
      → (interface : InterfaceNumber) → 0 < interface
      → IsTrue (has_interface route.hops interface) → IsNextHop contents router links interface
