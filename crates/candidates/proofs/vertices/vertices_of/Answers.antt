use Rattle.std.proofs.Common.{[], ◌∷◌, length, arith, refl, ap}
use Rattle.std.proofs.lemmas.List.{length-append}
use Rattle.std.proofs.lemmas.Option.{slice_get_read}
use Rattle.routes.specs.Contents.{contents_at}
use Rattle.candidates.specs.Graphs.{StandsAt}
use Rattle.candidates.proofs.GraphWhole.{one_more}
use Rattle.candidates.proofs.vertices.vertices_of.Goals as goal

pub loop-at-preserved : goal.loop-at-preserved
loop-at-preserved c =
    let contents = contents_at c.args.advertised.now.moment c.args.advertised.now.db.now.present in
    let nodes = c.args.area.now.nodes.now in
    let old = c.loop-at.graph.items in
    let node = c.index-nodes-at.result in
    let here : StandsAt nodes node c.loop-at.at =
    slice_get_read nodes (length nodes) c.loop-at.at node refl (omega arith) c.index-nodes-at.is
    in
    record {
      within = omega (arith, c.loop-at-test.true);
      count = omega (
        arith,
        ap length c.in_ok-push.ensures.items,
        length-append old (c.in_ok-vertex.vertex ∷ []),
        c.loop-at.invariant.count,
      );
      each = rw c.in_ok-push.ensures.items
          (one_more contents c.args.root.now nodes old c.loop-at.at node c.in_ok-vertex.vertex
          c.loop-at.invariant.count here c.loop-at.invariant.each c.in_ok-vertex.ensures);
    }

pub returns : goal.returns
returns c = record {
  count = omega (
    arith,
    c.loop-at.invariant.count,
    c.loop-at.invariant.within,
    c.loop-at-test.false,
  );
  each = c.loop-at.invariant.each;
}
