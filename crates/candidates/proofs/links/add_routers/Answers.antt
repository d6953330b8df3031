use Rattle.std.proofs.Common.{List, sym, ◌∙◌, subst}
use Rattle.std.proofs.lemmas.Bool.{false≢true}
use Rattle.lsa.specs.declared.body.RouterLink.{RouterLink}
use Rattle.routes.specs.declared.graph.VertexLink.{VertexLink}
use Rattle.candidates.specs.Graphs.{Adds, OfEach}
use Rattle.candidates.specs.Links.{IsToRouter}
use Rattle.candidates.proofs.Lists.{each_all, each_more, each_none, each_skip}
use Rattle.candidates.proofs.links.add_routers.Goals as goal
use Rattle.candidates.proofs.links.add_routers.Goals.{then-is_to_router+in_ok-add_router}
use Rattle.candidates.proofs.links.add_routers.Goals.{else-is_to_router}

pub loop-advertised-init : goal.loop-advertised-init
loop-advertised-init c = record {
  adds = each_none (IsToRouter c.args.root.now c.args.area.now.nodes.now c.args.area.now.entries.now
      c.args.router) c.as_slice-advertised-items.result.now c.args.links.now.items;
  fits = λ all. all;
}

pub loop-advertised-preserved : goal.loop-advertised-preserved
loop-advertised-preserved c =
    let Q : RouterLink → VertexLink → Type 0 = IsToRouter c.args.root.now c.args.area.now.nodes.now
    c.args.area.now.entries.now c.args.router in
    let items = c.as_slice-advertised-items.result.now in
    let i = c.loop-advertised.advertised-index in
    let advertised = c.advertised-item.result in
    let first = c.args.links.now.items in
    let old = c.loop-advertised.links.items in
    record {
      adds = elim c.if-is_to_router.branch [
        | then-is_to_router+in_ok-add_router w ↦
            rw w.links-is (each_more Q items i advertised first old w.add_router.new.links.items
            c.loop-advertised-test.true c.advertised-item.is c.loop-advertised.invariant.adds
            w.in_ok-add_router.ensures.adds)
        | else-is_to_router w ↦
            rw w.links-is
            (each_skip Q items i advertised first old c.loop-advertised-test.true
            c.advertised-item.is
            (λ x t. false≢true (sym w.if-is_to_router.false
            ∙ c.is_to_router.ensures.1 (t.is_kind, t.counts))) c.loop-advertised.invariant.adds)
      ];
      fits = elim c.if-is_to_router.branch [
        | then-is_to_router+in_ok-add_router w ↦ rw w.links-is
            (λ all. w.in_ok-add_router.ensures.fits (c.loop-advertised.invariant.fits all))
        | else-is_to_router w ↦ rw w.links-is c.loop-advertised.invariant.fits
      ];
    }

pub returns-clause-adds : goal.returns-clause-adds
returns-clause-adds c =
    let Q : RouterLink → VertexLink → Type 0 = IsToRouter c.args.root.now c.args.area.now.nodes.now
    c.args.area.now.entries.now c.args.router in
    let P : List RouterLink → Type 0 =
    λ told_links. Adds (OfEach Q told_links) c.args.links.now.items
    c.loop-advertised.links.items in
    subst P c.as_slice-advertised-items.ensures
    (each_all Q c.as_slice-advertised-items.result.now c.loop-advertised.advertised-index
    c.args.links.now.items
    c.loop-advertised.links.items c.loop-advertised-test.false c.loop-advertised.invariant.adds)
