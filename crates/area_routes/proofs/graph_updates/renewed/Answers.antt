use Rattle.std.proofs.Common.{◌≡◌, true, ℕ, List, take, get_or, sym, subst, arith}
use Rattle.std.proofs.lemmas.List.{take_all, take_more}
use Rattle.candidates.proofs.GraphWhole.{is_graph}
use Rattle.candidates.specs.Graphs.{AreVertices}
use Rattle.area_routes.specs.Vertices.{IsRenewed}
use Rattle.area_routes.proofs.Stay.{AreEither, all_renewed, one_renewed}
use Rattle.routes.specs.Contents.{Contents, contents_at}
use Rattle.routes.specs.declared.node.Node.{Node}
use Rattle.area_routes.proofs.graph_updates.renewed.Goals as goal

pub loop-place-preserved : goal.loop-place-preserved
loop-place-preserved c =
    let old : Contents = contents_at c.args.before c.args.db.now.committed in
    let new : Contents = contents_at c.args.moment c.args.db.now.present in
    let root = c.args.graph.root in
    let nodes = c.args.graph.nodes.items in
    let places = c.args.places.now in
    let i = c.loop-place.place-index in
    let graph = c.loop-place.vertices.items in
    let next = c.renew.new.vertices.items in
    let place : ℕ = get_or places i 0 in
    let done : c.in_ok-renew.field-0 ≡ true = cc in
    let renewed : IsRenewed new root nodes place graph next =
    subst (λ (ns : List Node). IsRenewed new root ns place graph next) c.deref.ensures.value
    (c.in_ok-renew.ensures.renewed done) in
    subst (λ (ps : List ℕ). AreEither old new root nodes ps next)
    (sym (take_more places i 0 c.loop-place-test.true))
    (one_renewed old new root nodes (take i places) place graph next c.loop-place.invariant
    renewed)

pub returns-clause-graph : goal.returns-clause-graph
returns-clause-graph c =
    let old : Contents = contents_at c.args.before c.args.db.now.committed in
    let new : Contents = contents_at c.args.moment c.args.db.now.present in
    let root = c.args.graph.root in
    let nodes = c.args.graph.nodes.items in
    let graph = c.loop-place.vertices.items in
    let all : AreEither old new root nodes c.args.places.now graph =
    subst (λ (ps : List ℕ). AreEither old new root nodes ps graph)
    (take_all c.loop-place.place-index c.args.places.now
    (omega (arith, c.loop-place-test.false))) c.loop-place.invariant in
    let vertices : AreVertices new root nodes graph =
    all_renewed old new root nodes c.args.places.now graph all c.requires.others in
    let walkable = c.requires.graph.walkable in
    record {
      nodes = c.requires.nodes;
      vertices = vertices;
      walkable = record {
        interfaces = walkable.interfaces;
        ascend = walkable.ascend;
        count = vertices.count;
        few = omega (arith, vertices.count, walkable.count, walkable.few);
        lawful = is_graph new root nodes graph c.requires.nodes vertices walkable.interfaces;
      };
    }
