use Rattle.std.proofs.Common.{List, sym, ◌∙◌, subst}
use Rattle.std.proofs.lemmas.Bool.{false≢true}
use Rattle.lsa.specs.declared.body.RouterLink.{RouterLink}
use Rattle.routes.specs.declared.graph.VertexLink.{VertexLink}
use Rattle.candidates.specs.Graphs.{Adds, OfEach}
use Rattle.candidates.specs.Links.{IsOwnTo, IsOwnTransit}
use Rattle.candidates.proofs.Lists.{adds_same, each_all, each_more, each_none, each_skip}
use Rattle.candidates.proofs.links.add_own_transits.Goals as goal
use Rattle.candidates.proofs.links.add_own_transits.Goals.{then-is_transit_to+in_ok-add_own}
use Rattle.candidates.proofs.links.add_own_transits.Goals.{else-is_transit_to}

pub loop-advertised-init : goal.loop-advertised-init
loop-advertised-init c = record {
  adds = each_none (IsOwnTransit c.args.root.now c.args.id c.args.to)
      c.as_slice-advertised-items.result.now c.args.links.now.items;
  fits = λ all. all;
}

pub loop-advertised-preserved : goal.loop-advertised-preserved
loop-advertised-preserved c =
    let Q : RouterLink → VertexLink → Type 0 = IsOwnTransit c.args.root.now c.args.id c.args.to in
    let items = c.as_slice-advertised-items.result.now in
    let i = c.loop-advertised.advertised-index in
    let advertised = c.advertised-item.result in
    let first = c.args.links.now.items in
    let old = c.loop-advertised.links.items in
    record {
      adds = elim c.if-is_transit_to.branch [
        | then-is_transit_to+in_ok-add_own w ↦
            let is = c.is_transit_to.ensures.0 w.if-is_transit_to.true in
            let new = w.add_own.new.links.items in
            rw w.links-is
            (each_more Q items i advertised first old new c.loop-advertised-test.true
            c.advertised-item.is
            c.loop-advertised.invariant.adds
            (adds_same (IsOwnTo c.args.root.now c.args.to advertised.metric advertised.link_data)
            (Q advertised) old
            new (λ x o. record {
              is_kind = is.0;
              is_id = is.1;
              counts = is.2;
              leads = o;
            }) (λ x t. t.leads) w.in_ok-add_own.ensures.adds))
        | else-is_transit_to w ↦
            rw w.links-is
            (each_skip Q items i advertised first old c.loop-advertised-test.true
            c.advertised-item.is
            (λ x t. false≢true (sym w.if-is_transit_to.false
            ∙ c.is_transit_to.ensures.1 (t.is_kind, t.is_id, t.counts)))
            c.loop-advertised.invariant.adds)
      ];
      fits = elim c.if-is_transit_to.branch [
        | then-is_transit_to+in_ok-add_own w ↦ rw w.links-is
            (λ all. w.in_ok-add_own.ensures.fits (c.loop-advertised.invariant.fits all))
        | else-is_transit_to w ↦ rw w.links-is c.loop-advertised.invariant.fits
      ];
    }

pub returns-clause-adds : goal.returns-clause-adds
returns-clause-adds c =
    let Q : RouterLink → VertexLink → Type 0 = IsOwnTransit c.args.root.now c.args.id c.args.to in
    let P : List RouterLink → Type 0 =
    λ told_links. Adds (OfEach Q told_links) c.args.links.now.items
    c.loop-advertised.links.items in
    subst P c.as_slice-advertised-items.ensures
    (each_all Q c.as_slice-advertised-items.result.now c.loop-advertised.advertised-index
    c.args.links.now.items
    c.loop-advertised.links.items c.loop-advertised-test.false c.loop-advertised.invariant.adds)
