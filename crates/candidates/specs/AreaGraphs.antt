-- The graph of an area with its nodes (RFC 2328, section 16.1).
use Rattle.std.specs.Prelude.{◌≡◌, ◌≤◌, length}
use Rattle.words.specs.Constants.{max_lsas}
use Rattle.candidates.specs.Graphs.{AreVertices}
use Rattle.candidates.specs.Nodes.{AreNodes, Ascend}
use Rattle.routes.specs.Graphs.{IsGraph}
use Rattle.routes.specs.Contents.{Contents}
use Rattle.candidates.specs.declared.graph.AreaGraph.{AreaGraph}

-- the requirements of the search: the nodes are sorted, each with a vertex, there are at most
-- 16,384 of them, and each link leads to one
pub record IsWalkable (graph : AreaGraph) : Type 0 where
  pub interfaces : length graph.root.addresses ≤ 63
  pub ascend : Ascend graph.nodes.items
  pub count : length graph.vertices.items ≡ length graph.nodes.items
  pub few : length graph.vertices.items ≤ max_lsas
  pub lawful : IsGraph graph.vertices.items

-- the nodes of a database, and the links between them that count, seen from the graph's root
pub record IsAreaGraph (contents : Contents) (graph : AreaGraph) : Type 0 where
  pub nodes : AreNodes contents graph.nodes.items
  pub vertices : AreVertices contents graph.root graph.nodes.items graph.vertices.items
  pub walkable : IsWalkable graph
