use Rattle.std.proofs.Common.{List, subst}
use Rattle.lsa.specs.declared.body.RouterLink.{RouterLink}
use Rattle.routes.specs.declared.graph.VertexLink.{VertexLink}
use Rattle.candidates.specs.Graphs.{Adds, OfEach}
use Rattle.candidates.proofs.Lists.{each_all, each_more, each_none}
use Rattle.area_routes.specs.GraphLinks.{IsToEnd}
use Rattle.routes.specs.Contents.{contents_at}
use Rattle.area_routes.proofs.graph_links.add_all.Goals as goal

pub loop-advertised-init : goal.loop-advertised-init
loop-advertised-init c =
    let Q : RouterLink → VertexLink → Type 0 = IsToEnd
    (contents_at c.args.at.now.moment c.args.at.now.db.now.present) c.args.root.now
    c.args.at.now.nodes.now c.args.router in
    record {
      adds = each_none Q c.as_slice-advertised-items.result.now c.args.links.now.items;
      fits = λ all. all;
    }

pub loop-advertised-preserved : goal.loop-advertised-preserved
loop-advertised-preserved c =
    let Q : RouterLink → VertexLink → Type 0 = IsToEnd
    (contents_at c.args.at.now.moment c.args.at.now.db.now.present) c.args.root.now
    c.args.at.now.nodes.now c.args.router in
    record {
      adds = each_more Q c.as_slice-advertised-items.result.now c.loop-advertised.advertised-index
          c.advertised-item.result c.args.links.now.items c.loop-advertised.links.items
          c.add_ends.new.links.items c.loop-advertised-test.true c.advertised-item.is
          c.loop-advertised.invariant.adds c.in_ok-add_ends.ensures.adds;
      fits = λ all. c.in_ok-add_ends.ensures.fits (c.loop-advertised.invariant.fits all);
    }

pub returns-clause-adds : goal.returns-clause-adds
returns-clause-adds c =
    let Q : RouterLink → VertexLink → Type 0 = IsToEnd
    (contents_at c.args.at.now.moment c.args.at.now.db.now.present) c.args.root.now
    c.args.at.now.nodes.now c.args.router in
    let P : List RouterLink → Type 0 =
    λ told_links. Adds (OfEach Q told_links) c.args.links.now.items
    c.loop-advertised.links.items in
    subst P c.as_slice-advertised-items.ensures
    (each_all Q c.as_slice-advertised-items.result.now c.loop-advertised.advertised-index
    c.args.links.now.items
    c.loop-advertised.links.items c.loop-advertised-test.false c.loop-advertised.invariant.adds)
