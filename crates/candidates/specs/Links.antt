-- The links of the graph as they are added, each from one link or one list of an LSA.
use Rattle.std.specs.Prelude.{◌≡◌, ℕ, ◌+◌, ◌<◌, List, Option, None, Some, slice_get}
use Rattle.std.specs.List.{Contains}
use Rattle.lsa.specs.declared.body.RouterLink.{RouterLink}
use Rattle.lsa.specs.declared.body.LinkKind.TheVariants as kinds
use Rattle.routes.specs.declared.graph.VertexLink.{VertexLink}
use Rattle.routes.specs.declared.node.Node.{Node}
use Rattle.routes.specs.declared.node.Node.TheVariants.{ARouter}
use Rattle.routes.specs.declared.root.Root.{Root}
use Rattle.candidates.specs.Entries.{HasEntry, IsLeastMetric}
use Rattle.candidates.specs.Graphs.{OfEach, StandsAt}
use Rattle.candidates.specs.declared.entry.AdvertisedLink.{AdvertisedLink}
use Rattle.candidates.specs.declared.entry.EntryKind.{EntryKind}
use Rattle.candidates.specs.declared.entry.EntryKind.TheVariants.{Attached, PointToPoint, Transit}

-- the index of a router with an entry of this kind and ID, if it has one
abbrev pub IsNeighborAt : List Node → List AdvertisedLink → (router : ℕ) → EntryKind → (id : ℕ)
    → Option ℕ → Type 0
IsNeighborAt nodes entries router kind id None = HasEntry entries router kind id → ⊥
IsNeighborAt nodes entries router kind id (Some at) =
    StandsAt nodes (ARouter router) at × HasEntry entries router kind id

-- by an own interface with this address
abbrev pub IsOwnExit : Root → (address exit : ℕ) → Type 0
IsOwnExit root address exit =
    (n : ℕ) × (exit ≡ n + 1) × (slice_get root.addresses n ≡ Some address)

-- the root sends by an own interface whose address is the link's data; for other routers it is 0
pub record IsExit (root : Root) (router : ℕ) (address exit : ℕ) : Type 0 where
  pub by_interface : router ≡ root.router → IsOwnExit root address exit
  pub elsewhere : ¬ (router ≡ root.router) → exit ≡ 0

-- the root's links to the node by an own interface with this address
abbrev pub IsOwnTo : Root → (to cost address : ℕ) → VertexLink → Type 0
IsOwnTo root to cost address link =
    (link.to ≡ to) × (link.cost ≡ cost) × IsOwnExit root address link.interface

-- the router's links to the node by an interface with this address
abbrev pub IsExitTo : Root → (router : ℕ) → (to cost address : ℕ) → VertexLink → Type 0
IsExitTo root router to cost address link =
    (link.to ≡ to) × (link.cost ≡ cost) × IsExit root router address link.interface

-- to the router at the far end of a point-to-point link, which has a link back
pub record IsToRouter (root : Root) (nodes : List Node) (entries : List AdvertisedLink) (router : ℕ)
    (advertised : RouterLink) (link : VertexLink) : Type 0 where
  pub is_kind : advertised.kind ≡ kinds.PointToPoint
  pub counts : 0 < advertised.metric
  pub stands : StandsAt nodes (ARouter advertised.link_id) link.to
  pub back : HasEntry entries advertised.link_id PointToPoint router
  pub leads : IsExitTo root router link.to advertised.metric advertised.link_data link

-- the root's link to a network with this Link State ID, for a transit link of its LSA
pub record IsOwnTransit (root : Root) (id to : ℕ) (advertised : RouterLink) (link : VertexLink) :
    Type 0 where
  pub is_kind : advertised.kind ≡ kinds.Transit
  pub is_id : advertised.link_id ≡ id
  pub counts : 0 < advertised.metric
  pub leads : IsOwnTo root to advertised.metric advertised.link_data link

-- another router's link to the network of the entry, by the cheapest of its transit links to that
-- Link State ID whose metric isn't 0
pub record IsCheapest (entries : List AdvertisedLink) (router : ℕ) (entry : AdvertisedLink)
    (link : VertexLink) : Type 0 where
  pub same_end : link.to ≡ entry.place
  pub least : IsLeastMetric entries router Transit entry.id 1 (Some link.cost)
  pub exit : link.interface ≡ 0

-- to the network of the entry
pub record IsToNetwork (root : Root) (entries : List AdvertisedLink) (router : ℕ)
    (told_links : List RouterLink)
    (entry : AdvertisedLink) (link : VertexLink) : Type 0 where
  pub own : router ≡ root.router → OfEach (IsOwnTransit root entry.id entry.place) told_links link
  pub other : ¬ (router ≡ root.router) → IsCheapest entries router entry link

-- to a network that lists the router
pub record IsToSomeNetwork (root : Root) (entries : List AdvertisedLink) (router : ℕ)
    (told_links : List RouterLink) (link : VertexLink) : Type 0 where
  pub entry : AdvertisedLink
  pub among : Contains entries entry
  pub is_router : entry.router ≡ router
  pub is_kind : entry.kind ≡ Attached
  pub leads : IsToNetwork root entries router told_links entry link

-- from a network with this Link State ID to a router that it lists and that has a link back, at
-- cost 0
pub record IsToListed (nodes : List Node) (entries : List AdvertisedLink) (id router : ℕ)
    (link : VertexLink) : Type 0 where
  pub stands : StandsAt nodes (ARouter router) link.to
  pub back : HasEntry entries router Transit id
  pub free : link.cost ≡ 0
  pub exit : link.interface ≡ 0
