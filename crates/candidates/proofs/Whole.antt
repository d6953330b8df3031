-- The answers of a graph of the database, at the indices of its nodes, are the ways of the
-- database.
use Rattle.std.proofs.Common.{ℕ, inl, inr, List, [], ◌∷◌, get_or, Option, None, Some, sym, subst}
use Rattle.candidates.proofs.Leads.{far_end}
use Rattle.candidates.proofs.GraphWhole.{contained, placed}
use Rattle.candidates.specs.Graphs.{StandsAt}
use Rattle.candidates.specs.Nodes.{AreNodes, HasLsa}
use Rattle.candidates.specs.Ways.{AreWays}
use Rattle.routes.proofs.Bridge.{IsAnswerFor, bridged}
use Rattle.routes.specs.Answers.{IsNodeAnswer}
use Rattle.routes.specs.Graphs.{Graph, IsAnswer, IsGraphOf}
use Rattle.routes.specs.Links.{Leads}
use Rattle.routes.specs.Paths.{IsWalk, Step}
use Rattle.routes.specs.Contents.{Contents}
use Rattle.routes.specs.declared.graph.Way.{Way}
use Rattle.routes.specs.declared.node.Node.{Node}
use Rattle.routes.specs.declared.node.Node.TheVariants.{ARouter}
use Rattle.routes.specs.declared.root.Root.{Root}
use Rattle.candidates.proofs.NodePlaces.{beside, beside_none, seek}
use Rattle.candidates.specs.Reached.{way_beside}

-- a link leads to a node that has an LSA, so a walk from such a node ends at one
pub far : (contents : Contents) (root : Root) (from : Node) (step : Step Node)
    → Leads contents root from step
    → HasLsa contents step.target
far contents root from step leads = far_end contents root from step.target step.cost step.exit leads

pub ends : (contents : Contents) (root : Root) (from : Node) → HasLsa contents from
    → (walk : List (Step Node)) (to : Node) → IsWalk (Leads contents root) from walk to → HasLsa
    contents to
ends contents root from has [] to is = let P : Node → Type 0 =
    λ n. HasLsa contents n in subst P is has
ends contents root from has (step ∷ rest) to is =
    ends contents root step.target (far contents root from step is.0) rest to is.1

node_answer : (contents : Contents) (root : Root) (node : Node) (o : Option Way)
    → IsAnswerFor (Leads contents root) (ARouter root.router) node o → IsNodeAnswer contents root
    node o
node_answer contents root node None answer = answer
node_answer contents root node (Some way) answer = answer

pub are_ways : (contents : Contents) (root : Root) (nodes : List Node) (g : Graph)
    (ways : List (Option Way)) (at : ℕ) → AreNodes contents nodes
    → IsGraphOf (Leads contents root) (StandsAt nodes) g → StandsAt nodes (ARouter root.router) at
    → ((v : ℕ) → IsAnswer g at v (get_or ways v None))
    → AreWays contents root (λ node. way_beside nodes ways node)
are_ways contents root nodes g ways at are is here answers node =
    let P : Option Way → Type 0 = λ o. IsNodeAnswer contents root node o in
    elim (seek nodes node) [
      | inl there ↦
          subst P (sym (beside nodes ways are.ascend node there.0 there.1))
          (node_answer contents root node (get_or ways there.0 None)
          (bridged (Leads contents root) (StandsAt nodes) g is (ARouter root.router) node at there.0
          here there.1 (get_or ways there.0 None) (answers there.0)))
      | inr none ↦
          subst P (sym (beside_none nodes ways node none))
          (λ walk leads.
          let root_has = (are.each (ARouter root.router)).0
          (contained nodes at (ARouter root.router) here) in
          let place = placed nodes node ((are.each node).1
          (ends contents root (ARouter root.router) root_has walk node leads)) in
          none place.0 place.1)
    ]
