-- The ways to all nodes, as input of the calculation of routes (RFC 2328, section 16.1).
use Rattle.std.specs.Prelude.{◌≡◌, ◌<◌, Option, Some}
use Rattle.routes.specs.Answers.{IsNodeAnswer}
use Rattle.routes.specs.declared.graph.Way.{Way}
use Rattle.routes.specs.declared.node.Node.{Node}
use Rattle.routes.specs.declared.root.Root.{Root}
use Rattle.routes.specs.Contents.{Contents}

-- the way to each node, or None
abbrev pub Ways : Type 0
Ways = Node → Option Way

-- they are the ways by the links that count
abbrev pub AreWays : Contents → Root → Ways → Type 0
AreWays contents root ways = (node : Node) → IsNodeAnswer contents root node (ways node)

-- so that the sum of a way and a metric fits in 32 bits
abbrev pub DistancesFit : Ways → Type 0
DistancesFit ways = (node : Node) (way : Way) → ways node ≡ Some way → way.distance < 1073741824
