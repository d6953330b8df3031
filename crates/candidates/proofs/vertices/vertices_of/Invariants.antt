use Rattle.std.proofs.Common.{◌≡◌, ◌≤◌, ℕ, Some, slice_get}
use Rattle.routes.specs.Contents.{contents_at}
use Rattle.routes.specs.declared.graph.Vertex.{Vertex}
use Rattle.routes.specs.declared.node.Node.{Node}
use Rattle.candidates.specs.Graphs.{IsVertexOf, StandsAt}
use Rattle.std.specs.Prelude.{length}
use Rattle.candidates.proofs.vertices.vertices_of.Given as goal

abbrev pub invariant-loop-at : goal.invariant-loop-at
invariant-loop-at l = record {
  within : l.at ≤ length l.area.nodes.now;
  count : length l.graph.items ≡ l.at;
  each : (at : ℕ) (node : Node) (vertex : Vertex) → StandsAt l.area.nodes.now node at
      → slice_get l.graph.items at ≡ Some vertex
      → IsVertexOf (contents_at l.advertised.moment l.advertised.db.now.present) l.root
      l.area.nodes.now node
      vertex;
}
