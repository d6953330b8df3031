use Rattle.std.specs.List.{All}
use Rattle.candidates.specs.Graphs.{Adds, CostFits}
use Rattle.area_routes.proofs.Neighbors.{IsToNetworkBelow}
use Rattle.routes.specs.Contents.{contents_at}
use Rattle.area_routes.proofs.graph_links.add_networks.Given as goal

abbrev pub invariant-loop-place : goal.invariant-loop-place
invariant-loop-place l = record {
  adds : Adds (IsToNetworkBelow (contents_at l.at.moment l.at.db.now.present) l.root l.at.nodes.now
      l.router l.advertised l.place) l.fn.links.items l.links.items;
  fits : All CostFits l.fn.links.items → All CostFits l.links.items;
}
