use Rattle.std.proofs.Common.{◌≡◌, ◌<◌, ℕ, List, None, get_or, slice_get, Some, sym, subst, ◌∙◌}
use Rattle.candidates.proofs.GraphWhole.{is_graph_of, placed}
use Rattle.candidates.specs.Nodes.{HasLsa}
use Rattle.candidates.specs.Ways.{DistancesFit, AreWays}
use Rattle.routes.specs.Graphs.{Graph, IsAnswer}
use Rattle.routes.specs.declared.graph.Way.{Way}
use Rattle.routes.specs.declared.node.Node.{Node}
use Rattle.routes.specs.declared.node.Node.TheVariants.{ARouter}
use Rattle.candidates.proofs.Alone.{alone_ways, without_lsa}
use Rattle.candidates.proofs.NodePlaces.{of_beside}
use Rattle.candidates.proofs.Whole.{are_ways}
use Rattle.candidates.proofs.graph.AreaGraph.walk.Goals as goal
use Rattle.candidates.specs.Reached.{NodeWays, way_beside, way_in}

pub returns-in_ok-reached-in-None-clause-ways : goal.returns-in_ok-reached-in-None-clause-ways
returns-in_ok-reached-in-None-clause-ways c contents is =
    let root = c.args.self.now.root in
    let own : Node = ARouter root.router in
    let nodes = c.args.self.now.nodes.items in
    let M : List Node → Type 0 = λ ns. (at : ℕ) → slice_get ns at ≡ Some own → ⊥ in
    let missing = subst M c.deref.ensures.value c.in-None.ensures.missing in
    let none : HasLsa contents own → ⊥ = λ has. let place =
    placed nodes own ((is.nodes.each own).1 has) in missing place.0 place.1 in
    let P : NodeWays → Type 0 = λ reached. AreWays contents root (way_in reached) in
    subst P (sym c.in_ok-reached-in-None.ensures)
    (alone_ways contents root (without_lsa contents root none))

pub returns-in_ok-slots-in-Some-clause-ways : goal.returns-in_ok-slots-in-Some-clause-ways
returns-in_ok-slots-in-Some-clause-ways c contents is =
    let root = c.args.self.now.root in
    let nodes = c.args.self.now.nodes.items in
    let graph = c.args.self.now.vertices.items in
    let ways = c.in_ok-ways-in-Some.ways.items in
    let at = c.in-Some.at in
    let F : List Node → Type 0 = λ ns. slice_get ns at ≡ Some (ARouter root.router) in
    let A : Graph → Type 0 = λ g. (v : ℕ) → IsAnswer g at v (get_or ways v None) in
    let copied : c.in_ok-nodes-in-Some.nodes.items ≡ nodes =
    c.in_ok-nodes-in-Some.ensures.items ∙ c.deref-in-Some-2.ensures.value in
    let P : NodeWays → Type 0 = λ reached. AreWays contents root (way_in reached) in
    let Q : List Node → Type 0 = λ ns. AreWays contents root (λ node. way_beside ns ways node) in
    let all : Q nodes = are_ways contents root nodes graph ways at is.nodes
    (is_graph_of contents root nodes graph is.nodes is.vertices)
    (subst F c.deref.ensures.value c.in-Some.ensures.found)
    (subst A c.deref-in-Some.ensures.value c.in_ok-ways-in-Some.ensures.answers) in
    subst P (sym c.new.ensures) (subst Q (sym copied) all)

pub returns-in_ok-slots-in-Some-clause-near : goal.returns-in_ok-slots-in-Some-clause-near
returns-in_ok-slots-in-Some-clause-near c =
    let P : NodeWays → Type 0 = λ reached. DistancesFit (way_in reached) in
    subst P (sym c.new.ensures) (of_beside (λ (way : Way). way.distance < 1073741824)
    c.in_ok-nodes-in-Some.nodes.items c.in_ok-ways-in-Some.ways.items
    c.in_ok-ways-in-Some.ensures.near)
