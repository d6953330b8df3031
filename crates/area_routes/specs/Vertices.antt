-- Vertices that are recalculated, one after the other.
use Rattle.std.specs.Prelude.{◌≡◌, ◌≢◌, ℕ, List, Some, length, slice_get}
use Rattle.std.specs.List.{Contains}
use Rattle.candidates.specs.Graphs.{IsVertexOf, StandsAt}
use Rattle.routes.specs.Graphs.{Graph}
use Rattle.routes.specs.Contents.{Contents}
use Rattle.routes.specs.declared.graph.Vertex.{Vertex}
use Rattle.routes.specs.declared.node.Node.{Node}
use Rattle.routes.specs.declared.root.Root.{Root}

-- the vertex at this index was recalculated, and all others are unchanged
pub record IsRenewed (contents : Contents) (root : Root) (nodes : List Node) (at : ℕ) (old : Graph)
    (new : Graph) : Type 0 where
  pub count : length new ≡ length old
  pub others : (place : ℕ) → place ≢ at → slice_get new place ≡ slice_get old place
  pub own : (node : Node) (vertex : Vertex) → StandsAt nodes node at
      → slice_get new at ≡ Some vertex → IsVertexOf contents root nodes node vertex

-- a vertex at an index that isn't among these is still correct
abbrev pub StayUnlessAmong : (old : Contents) → (new : Contents) → Root → List Node
    → (places : List ℕ)
    → Type 0
StayUnlessAmong old new root nodes places =
    (at : ℕ) (node : Node) (vertex : Vertex) → StandsAt nodes node at → (Contains places at → ⊥)
    → IsVertexOf old root nodes node vertex → IsVertexOf new root nodes node vertex
