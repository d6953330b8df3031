-- The links of the graph from a router or a network, each from one link or list of its LSA (RFC
-- 2328, section 16.1).
use Rattle.std.specs.Prelude.{◌≡◌, ◌<◌, ◌⊎◌, ℕ, List, Option, None, Some}
use Rattle.std.specs.List.{Contains}
use Rattle.lsa.specs.declared.body.RouterLink.{RouterLink}
use Rattle.lsa.specs.declared.body.LinkKind.{LinkKind}
use Rattle.lsa.specs.declared.body.LinkKind.TheVariants.{PointToPoint, Transit}
use Rattle.lsa.specs.declared.body.RouterLsa.{RouterLsa}
use Rattle.candidates.specs.Entries.{IsListedAt}
use Rattle.candidates.specs.Graphs.{StandsAt}
use Rattle.candidates.specs.Links.{IsExitTo}
use Rattle.routes.specs.Links.{LinksBack}
use Rattle.routes.specs.Contents.{Contents}
use Rattle.routes.specs.declared.graph.VertexLink.{VertexLink}
use Rattle.routes.specs.declared.node.Node.{Node}
use Rattle.routes.specs.declared.node.Node.TheVariants.{ANetwork, ARouter}
use Rattle.routes.specs.declared.root.Root.{Root}
use Rattle.words.specs.Numbers.{RouterNumber}

-- the node is a network whose LSA has this Link State ID
abbrev pub IsOfId : (id : ℕ) → Node → Type 0
IsOfId id (ARouter router) = ⊥
IsOfId id (ANetwork its by) = its ≡ id

-- the LSA has a link of this kind to this Link ID
abbrev pub HasLinkTo : RouterLsa → LinkKind → (id : ℕ) → Type 0
HasLinkTo lsa kind id =
    (link : RouterLink) × Contains lsa.links link × (link.kind ≡ kind) × (link.link_id ≡ id)

-- the index of a router, if it has a link of this kind to this Link ID
abbrev pub IsNeighbor : Contents → List Node → RouterNumber → LinkKind → (id : ℕ) → Option ℕ
    → Type 0
IsNeighbor contents nodes router kind id None = LinksBack contents router kind id → ⊥
IsNeighbor contents nodes router kind id (Some at) =
    StandsAt nodes (ARouter router) at × LinksBack contents router kind id

-- to the router at the far end of a point-to-point link that may count, which has a link back
pub record IsToNeighbor (contents : Contents) (root : Root) (nodes : List Node)
    (router : RouterNumber)
    (advertised : RouterLink) (link : VertexLink) : Type 0 where
  pub is_kind : advertised.kind ≡ PointToPoint
  pub counts : 0 < advertised.metric
  pub stands : StandsAt nodes (ARouter advertised.link_id) link.to
  pub back : LinksBack contents advertised.link_id PointToPoint router
  pub leads : IsExitTo root router link.to advertised.metric advertised.link_data link

-- to a network with the Link ID of a transit link that may count, which lists the router
pub record IsToNetwork (contents : Contents) (root : Root) (nodes : List Node)
    (router : RouterNumber)
    (advertised : RouterLink) (link : VertexLink) : Type 0 where
  pub is_kind : advertised.kind ≡ Transit
  pub counts : 0 < advertised.metric
  pub listed : IsListedAt contents nodes router advertised.link_id link.to
  pub leads : IsExitTo root router link.to advertised.metric advertised.link_data link

-- to the network at this index
abbrev pub IsToNetworkAt : Contents → Root → List Node → RouterNumber → RouterLink → (place : ℕ)
    → VertexLink → Type 0
IsToNetworkAt contents root nodes router advertised place link =
    (link.to ≡ place) × IsToNetwork contents root nodes router advertised link

-- to a node that the link of the router's LSA leads to
abbrev pub IsToEnd : Contents → Root → List Node → RouterNumber → RouterLink → VertexLink → Type 0
IsToEnd contents root nodes router advertised link =
    IsToNeighbor contents root nodes router advertised link
    ⊎ IsToNetwork contents root nodes router advertised link

-- from a network with this Link State ID to a router that it lists and that has a link back, at
-- cost 0
pub record IsAttached (contents : Contents) (nodes : List Node) (id : ℕ) (router : RouterNumber)
    (link : VertexLink) : Type 0 where
  pub stands : StandsAt nodes (ARouter router) link.to
  pub back : LinksBack contents router Transit id
  pub free : link.cost ≡ 0
  pub exit : link.interface ≡ 0
