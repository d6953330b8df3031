use Rattle.std.proofs.Common.{ℕ, List, [], Some, Option, sym, subst}
use Rattle.std.specs.Prelude.{IfSome}
use Rattle.kept_routes.specs.Changes.{OthersHaveSameContents}
use Rattle.area_routes.specs.GraphChanges.{AreCovered}
use Rattle.area_routes.specs.Vertices.{StayUnlessAmong}
use Rattle.area_routes.proofs.Stay.{all_covered, all_stay, nodes_stay, same_covered, vertices_stay}
use Rattle.kept_routes.specs.Sameness.{HaveSameContents}
use Rattle.routes.specs.Contents.{Contents, contents_at}
use Rattle.routes.specs.declared.node.Node.{Node}
use Rattle.words.specs.declared.key.Key.{Key}
use Rattle.area_routes.proofs.graph_updates.update_graph.Goals as goal

pub returns-then-branch-clause-graph : goal.returns-then-branch-clause-graph
returns-then-branch-clause-graph c =
    let old : Contents = contents_at c.args.before c.args.db.now.committed in
    let new : Contents = contents_at c.args.moment c.args.db.now.present in
    let graph = c.args.graph in
    let same : HaveSameContents (Some 2) old new =
    c.in_ok-lsas_are_unchanged.ensures.same c.if-branch.true in
    record {
      nodes = nodes_stay old new graph.nodes.items [] (same_covered old new graph.nodes.items same)
          c.requires.graph.nodes;
      vertices = all_stay old new graph.root graph.nodes.items graph.vertices.items same
          c.requires.graph.vertices;
      walkable = c.requires.graph.walkable;
    }

pub renewed-requires-clause-nodes : goal.renewed-requires-clause-nodes
renewed-requires-clause-nodes c =
    let old : Contents = contents_at c.args.before c.args.db.now.committed in
    let new : Contents = contents_at c.args.moment c.args.db.now.present in
    let nodes = c.args.graph.nodes.items in
    let places = c.in-Some.places.items in
    let covered : AreCovered old new c.deref.result.now places c.deref-2.result.now =
    subst (λ (o : Option _). IfSome o
    (λ found. AreCovered old new c.deref.result.now found.items c.deref-2.result.now))
    c.in-Some.is c.in_ok-indices_to_renew.ensures in
    let on_nodes : AreCovered old new nodes places c.deref-2.result.now =
    subst (λ (ns : List Node). AreCovered old new ns places c.deref-2.result.now)
    c.deref.ensures.value covered in
    let others : OthersHaveSameContents c.deref-2.result.now old new =
    subst (λ (ks : List Key). OthersHaveSameContents ks old new) (sym c.deref-2.ensures.value)
    c.in_ok-keys.ensures in
    nodes_stay old new nodes places (all_covered old new nodes places c.deref-2.result.now others
    on_nodes) c.requires.graph.nodes

pub renewed-requires-clause-others : goal.renewed-requires-clause-others
renewed-requires-clause-others c =
    let old : Contents = contents_at c.args.before c.args.db.now.committed in
    let new : Contents = contents_at c.args.moment c.args.db.now.present in
    let root = c.args.graph.root in
    let nodes = c.args.graph.nodes.items in
    let places = c.in-Some.places.items in
    let covered : AreCovered old new c.deref.result.now places c.deref-2.result.now =
    subst (λ (o : Option _). IfSome o
    (λ found. AreCovered old new c.deref.result.now found.items c.deref-2.result.now))
    c.in-Some.is c.in_ok-indices_to_renew.ensures in
    let on_nodes : AreCovered old new nodes places c.deref-2.result.now =
    subst (λ (ns : List Node). AreCovered old new ns places c.deref-2.result.now)
    c.deref.ensures.value covered in
    let others : OthersHaveSameContents c.deref-2.result.now old new =
    subst (λ (ks : List Key). OthersHaveSameContents ks old new) (sym c.deref-2.ensures.value)
    c.in_ok-keys.ensures in
    subst (λ (ps : List ℕ). StayUnlessAmong old new root nodes ps)
    (sym c.deref-in-Some-2.ensures.value)
    (vertices_stay old new nodes places
    (all_covered old new nodes places c.deref-2.result.now others on_nodes) root)
