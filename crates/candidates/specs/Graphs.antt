-- The vertices of the nodes of a database, at the indices of the nodes.
use Rattle.std.specs.Prelude.{◌≡◌, ℕ, ◌<◌, ◌≤◌, ◌^◌, List, Some, length, slice_get, ◌↔◌, ◌⊎◌}
use Rattle.std.specs.List.{All, Contains}
use Rattle.routes.specs.Graphs.{Graph}
use Rattle.routes.specs.Links.{LeadsTo}
use Rattle.routes.specs.Contents.{Contents}
use Rattle.routes.specs.declared.graph.VertexKind.{VertexKind}
use Rattle.routes.specs.declared.graph.VertexKind.TheVariants.{Network, Router}
use Rattle.routes.specs.declared.graph.VertexLink.{VertexLink}
use Rattle.routes.specs.declared.graph.Vertex.{Vertex}
use Rattle.routes.specs.declared.node.Node.{Node}
use Rattle.routes.specs.declared.node.Node.TheVariants.{ANetwork, ARouter}
use Rattle.routes.specs.declared.root.Root.{Root}

abbrev pub kind_of : Node → VertexKind
kind_of (ARouter router) = Router
kind_of (ANetwork id by) = Network

-- the node is at its index in the list
abbrev pub StandsAt : List Node → Node → ℕ → Type 0
StandsAt nodes node at = slice_get nodes at ≡ Some node

-- the link of the graph stands for one that counts
pub record IsLinkFrom (contents : Contents) (root : Root) (nodes : List Node) (from : Node)
    (link : VertexLink) : Type 0 where
  pub target : Node
  pub stands : StandsAt nodes target link.to
  pub leads : LeadsTo contents root from target link.cost link.interface

-- the other link leads to the same node, by the same interface, and costs no more
pub record IsNoDearer (link other : VertexLink) : Type 0 where
  pub same_end : other.to ≡ link.to
  pub same_exit : other.interface ≡ link.interface
  pub costs : other.cost ≤ link.cost

-- each stands for a link that counts, and for each such link there is one that costs no more
pub record AreLinksFrom (contents : Contents) (root : Root) (nodes : List Node) (from : Node)
    (links : List VertexLink) : Type 0 where
  pub only : (link : VertexLink) → Contains links link → IsLinkFrom contents root nodes from link
  pub each : (link : VertexLink) → IsLinkFrom contents root nodes from link
      → (other : VertexLink) × Contains links other × IsNoDearer link other

-- the list after exactly these elements were added
abbrev pub Adds : {X : Type 0} → (X → Type 0) → (old : List X) → (new : List X) → Type 0
Adds {X} P old new = (x : X) → Contains new x ↔ (Contains old x ⊎ P x)

-- the element comes from some element of the list
abbrev pub OfEach : {X Y : Type 0} → (Y → X → Type 0) → List Y → X → Type 0
OfEach {X} {Y} P ys x = (y : Y) × Contains ys y × P y x

abbrev pub CostFits : VertexLink → Type 0
CostFits link = link.cost < 2 ^ 16

-- the vertex has the node's kind and links that stand for its links
pub record IsVertexOf (contents : Contents) (root : Root) (nodes : List Node) (node : Node)
    (vertex : Vertex) : Type 0 where
  pub kind : vertex.kind ≡ kind_of node
  pub links : AreLinksFrom contents root nodes node vertex.links.items
  pub fits : All CostFits vertex.links.items

-- at the index of each node, its vertex
pub record AreVertices (contents : Contents) (root : Root) (nodes : List Node)
    (graph : Graph) : Type 0 where
  pub count : length graph ≡ length nodes
  pub each : (at : ℕ) (node : Node) (vertex : Vertex) → StandsAt nodes node at
      → slice_get graph at ≡ Some vertex → IsVertexOf contents root nodes node vertex
