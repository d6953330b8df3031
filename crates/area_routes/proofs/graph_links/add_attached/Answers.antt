use Rattle.std.proofs.Common.{◌≡◌, ℕ, List, Option, None, Some, subst, arith}
use Rattle.lsa.specs.declared.body.LinkKind.TheVariants.{Transit}
use Rattle.routes.specs.declared.graph.VertexLink.{VertexLink}
use Rattle.candidates.specs.Graphs.{Adds, OfEach}
use Rattle.candidates.proofs.Lists.{each_all, each_more, each_none}
use Rattle.candidates.proofs.Steps.{pushed_fits}
use Rattle.area_routes.specs.GraphLinks.{IsAttached, IsNeighbor}
use Rattle.area_routes.proofs.Neighbors.{not_attached, to_attached}
use Rattle.routes.specs.Contents.{contents_at}
use Rattle.area_routes.proofs.graph_links.add_attached.Goals as goal
use Rattle.area_routes.proofs.graph_links.add_attached.Goals.{in-Some+in_ok-push, in_default}

pub loop-router-init : goal.loop-router-init
loop-router-init c =
    let contents = contents_at c.args.at.now.moment c.args.at.now.db.now.present in
    record {
      adds = each_none (IsAttached contents c.args.at.now.nodes.now c.args.id)
          c.as_slice-router-items.result.now c.args.links.now.items;
      fits = λ all. all;
    }

pub loop-router-preserved : goal.loop-router-preserved
loop-router-preserved c =
    let contents = contents_at c.args.at.now.moment c.args.at.now.db.now.present in
    let nodes = c.args.at.now.nodes.now in
    let router = c.router-item.result in
    let id = c.args.id in
    let Q : ℕ → VertexLink → Type 0 = IsAttached contents nodes id in
    let items = c.as_slice-router-items.result.now in
    let i = c.loop-router.router-index in
    let first = c.args.links.now.items in
    let old = c.loop-router.links.items in
    let N : ℕ → Option ℕ → Type 0 = λ n o. IsNeighbor contents nodes router Transit n o in
    let is = λ (o : Option ℕ) (e : c.index_if_linking_back.result ≡ o). subst (N id) e
    (subst (λ n. N n c.index_if_linking_back.result) c.number.ensures
    c.index_if_linking_back.ensures) in
    record {
      adds = elim c.match-index_if_linking_back.branch [
        | in-Some+in_ok-push w ↦
            rw (w.links-is, w.in_ok-push.ensures.items)
            (each_more Q items i router first old _ c.loop-router-test.true c.router-item.is
            c.loop-router.invariant.adds
            (to_attached contents nodes id router w.in-Some.to old c.requires.ascend
            (is (Some w.in-Some.to) w.in-Some.is)))
        | in_default w ↦
            rw w.links-is
            (each_more Q items i router first old old c.loop-router-test.true c.router-item.is
            c.loop-router.invariant.adds
            (not_attached contents nodes id router old (is None w.in_default.is)))
      ];
      fits = elim c.match-index_if_linking_back.branch [
        | in-Some+in_ok-push w ↦ rw (w.links-is, w.in_ok-push.ensures.items)
            (λ all. pushed_fits old (record {
              to = w.in-Some.to;
              cost = 0;
              interface = 0;
            }) (omega arith) (c.loop-router.invariant.fits all))
        | in_default w ↦ rw w.links-is c.loop-router.invariant.fits
      ];
    }

pub returns-clause-adds : goal.returns-clause-adds
returns-clause-adds c =
    let contents = contents_at c.args.at.now.moment c.args.at.now.db.now.present in
    let Q : ℕ → VertexLink → Type 0 = IsAttached contents c.args.at.now.nodes.now c.args.id in
    let P : List ℕ → Type 0 = λ routers. Adds (OfEach Q routers) c.args.links.now.items
    c.loop-router.links.items in
    subst P c.as_slice-router-items.ensures
    (each_all Q c.as_slice-router-items.result.now c.loop-router.router-index
    c.args.links.now.items c.loop-router.links.items c.loop-router-test.false
    c.loop-router.invariant.adds)
