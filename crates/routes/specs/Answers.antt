-- What a graph that stands for the links of a database implies for the database.
use Rattle.std.specs.Prelude.{◌≡◌, ℕ, List, Option, Some, None}
use Rattle.routes.specs.Graphs.{Graph, IsAnswer, IsGraphOf}
use Rattle.routes.specs.Links.{Leads}
use Rattle.routes.specs.declared.node.Node.{Node}
use Rattle.routes.specs.declared.node.Node.TheVariants.{ARouter}
use Rattle.routes.specs.Paths.{IsWalk, IsWay, Step}
use Rattle.routes.specs.declared.graph.Way.{Way}
use Rattle.routes.specs.declared.root.Root.{Root}
use Rattle.routes.specs.Contents.{Contents}

-- the way to a node, or None if no walk leads there
abbrev pub IsNodeAnswer : Contents → Root → Node → Option Way → Type 0
IsNodeAnswer contents root to None =
    (walk : List (Step Node)) → IsWalk (Leads contents root) (ARouter root.router) walk to → ⊥
IsNodeAnswer contents root to (Some way) =
    IsWay (Leads contents root) (ARouter root.router) to
    (record { distance = way.distance; hops = way.hops })

-- if the graph stands for the links of the database, with its nodes at these indices, its answers
-- are those of the database
abbrev pub GraphsCarryAnswers : Type 0
GraphsCarryAnswers =
    (contents : Contents) (root : Root) (place : Node → Option ℕ) (g : Graph)
    → IsGraphOf (Leads contents root) (λ node at. place node ≡ Some at) g
    → (from to : ℕ) (node : Node) (answer : Option Way) → place (ARouter root.router) ≡ Some from
    → place node ≡ Some to → IsAnswer g from to answer → IsNodeAnswer contents root node answer
