-- The nodes of a database, each with its way (RFC 2328, section 16.1).
use Rattle.std.specs.Prelude.{◌≡◌, List, [], ◌∷◌, Option, None, Some, length, if◌then◌else◌}
use Rattle.std.specs.Ordering.{is_eq}
use Rattle.candidates.specs.Nodes.{Ascend, node_cmp}
use Rattle.routes.specs.declared.graph.Way.{Way}
use Rattle.routes.specs.declared.node.Node.{Node}
use Rattle.routes.specs.declared.node.Node.TheVariants.{ARouter}
use Rattle.routes.specs.declared.root.Root.{Root}

-- nodes, and at the index of each the way to it
pub record NodeWays : Type 0 where
  pub nodes : List Node
  pub ways : List (Option Way)

-- the nodes are sorted, each with a way or None
pub record AreBeside (reached : NodeWays) : Type 0 where
  pub ascend : Ascend reached.nodes
  pub count : length reached.ways ≡ length reached.nodes

-- the way at the node's index
abbrev pub way_beside : List Node → List (Option Way) → Node → Option Way
way_beside [] ways node = None
way_beside (first ∷ nodes) [] node = None
way_beside (first ∷ nodes) (way ∷ ways) node =
    if is_eq (node_cmp first node) then way else way_beside nodes ways node

-- the way to a node; None if it isn't among them or has none
abbrev pub way_in : NodeWays → Node → Option Way
way_in reached node = way_beside reached.nodes reached.ways node

-- the root by no link, and nothing else
abbrev pub alone : Root → NodeWays
alone root = record {
  nodes = ARouter root.router ∷ [];
  ways = Some (record { distance = 0; hops = 0 }) ∷ [];
}
