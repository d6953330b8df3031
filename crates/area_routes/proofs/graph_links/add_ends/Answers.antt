use Rattle.std.proofs.Common.{◌≡◌, false, sym, ◌∙◌, arith}
use Rattle.std.proofs.lemmas.Bool.{false≢true}
use Rattle.std.proofs.lemmas.Grind.{common_steps}
use Rattle.candidates.proofs.Steps.{on_ok}
use Rattle.candidates.specs.Graphs.{Adds}
use Rattle.routes.specs.Contents.{contents_at}
use Rattle.area_routes.specs.GraphLinks.{IsToEnd, IsToNeighbor, IsToNetwork}
use Rattle.area_routes.proofs.Neighbors.{is_no_point, is_no_transit, network_end, no_end}
use Rattle.area_routes.proofs.Neighbors.{other_end, router_end}
use Rattle.area_routes.proofs.graph_links.add_ends.Goals as goal

pub returns-then-not-counts-clause-adds : goal.returns-then-not-counts-clause-adds
returns-then-not-counts-clause-adds c =
    let contents = contents_at c.args.at.now.moment c.args.at.now.db.now.present in
    let away : c.counts.result ≡ false = grind (arith, common_steps) in
    no_end contents c.args.root.now c.args.at.now.nodes.now c.args.router c.args.advertised.now
    c.args.links.now.items (λ lt. false≢true (sym away ∙ c.counts.ensures.1 lt))

pub returns-in-PointToPoint-clause-adds : goal.returns-in-PointToPoint-clause-adds
returns-in-PointToPoint-clause-adds c =
    let contents = contents_at c.args.at.now.moment c.args.at.now.db.now.present in
    let root = c.args.root.now in
    let nodes = c.args.at.now.nodes.now in
    let router = c.args.router in
    let advertised = c.args.advertised.now in
    let old = c.args.links.now.items in
    let new = c.add_neighbor.new.links.items in
    on_ok c.add_neighbor.result (Adds (IsToNeighbor contents root nodes router advertised) old new)
    (Adds (IsToEnd contents root nodes router advertised) old new)
    (router_end contents root nodes router advertised old new
    (is_no_transit advertised c.in-PointToPoint.is))
    c.add_neighbor.ensures.adds

pub returns-in-Transit-clause-adds : goal.returns-in-Transit-clause-adds
returns-in-Transit-clause-adds c =
    let contents = contents_at c.args.at.now.moment c.args.at.now.db.now.present in
    let root = c.args.root.now in
    let nodes = c.args.at.now.nodes.now in
    let router = c.args.router in
    let advertised = c.args.advertised.now in
    let old = c.args.links.now.items in
    let new = c.add_networks.new.links.items in
    on_ok c.add_networks.result (Adds (IsToNetwork contents root nodes router advertised) old new)
    (Adds (IsToEnd contents root nodes router advertised) old new)
    (network_end contents root nodes router advertised old new
    (is_no_point advertised c.in-Transit.is))
    c.add_networks.ensures.adds

pub returns-in-Stub-clause-adds : goal.returns-in-Stub-clause-adds
returns-in-Stub-clause-adds c =
    let contents = contents_at c.args.at.now.moment c.args.at.now.db.now.present in
    other_end contents c.args.root.now c.args.at.now.nodes.now c.args.router c.args.advertised.now
    c.args.links.now.items (λ p. absurd cc) (λ p. absurd cc)

pub returns-in-Virtual-clause-adds : goal.returns-in-Virtual-clause-adds
returns-in-Virtual-clause-adds c =
    let contents = contents_at c.args.at.now.moment c.args.at.now.db.now.present in
    other_end contents c.args.root.now c.args.at.now.nodes.now c.args.router c.args.advertised.now
    c.args.links.now.items (λ p. absurd cc) (λ p. absurd cc)
