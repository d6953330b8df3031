use Rattle.std.proofs.Common.{◌<◌, ◌≤◌, ℕ, arith, subst}
use Rattle.candidates.specs.Graphs.{StandsAt}
use Rattle.area_routes.proofs.Neighbors.{all_below, none_below, one_more}
use Rattle.routes.specs.Contents.{contents_at}
use Rattle.routes.specs.declared.node.Node.TheVariants.{ANetwork}
use Rattle.area_routes.proofs.graph_links.add_networks.Goals as goal

pub loop-place-init : goal.loop-place-init
loop-place-init c =
    let contents = contents_at c.args.at.now.moment c.args.at.now.db.now.present in
    let nodes = c.args.at.now.nodes.now in
    let first = c.index_range_of-first.result.0 in
    let F : ℕ → Type 0 = λ id. (by place : ℕ) → StandsAt nodes (ANetwork id by) place
    → first ≤ place in
    record {
      adds = none_below contents c.args.root.now nodes c.args.router c.args.advertised.now first
          c.args.links.now.items (subst F c.new.ensures c.index_range_of-first.ensures.first);
      fits = λ all. all;
    }

pub loop-place-preserved : goal.loop-place-preserved
loop-place-preserved c =
    let contents = contents_at c.args.at.now.moment c.args.at.now.db.now.present in
    record {
      adds = one_more contents c.args.root.now c.args.at.now.nodes.now c.args.router
          c.args.advertised.now
          c.loop-place.place c.args.links.now.items c.loop-place.links.items
          c.add_network.new.links.items c.loop-place.invariant.adds
          c.in_ok-add_network.ensures.adds;
      fits = λ all. c.in_ok-add_network.ensures.fits (c.loop-place.invariant.fits all);
    }

pub returns-clause-adds : goal.returns-clause-adds
returns-clause-adds c =
    let contents = contents_at c.args.at.now.moment c.args.at.now.db.now.present in
    let nodes = c.args.at.now.nodes.now in
    let end = c.index_range_of-first.result.1 in
    let L : ℕ → Type 0 = λ id. (by place : ℕ) → StandsAt nodes (ANetwork id by) place
    → place < end in
    all_below contents c.args.root.now nodes c.args.router c.args.advertised.now c.loop-place.place
    end
    c.args.links.now.items c.loop-place.links.items
    (subst L c.new.ensures c.index_range_of-first.ensures.end)
    (omega (arith, c.loop-place-test.false))
    c.loop-place.invariant.adds
