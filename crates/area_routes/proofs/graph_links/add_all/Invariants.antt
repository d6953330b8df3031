use Rattle.std.specs.List.{All}
use Rattle.candidates.specs.Graphs.{Adds, CostFits}
use Rattle.candidates.proofs.Lists.{OfFront}
use Rattle.area_routes.specs.GraphLinks.{IsToEnd}
use Rattle.routes.specs.Contents.{contents_at}
use Rattle.area_routes.proofs.graph_links.add_all.Given as goal

abbrev pub invariant-loop-advertised : goal.invariant-loop-advertised
invariant-loop-advertised l = record {
  adds : Adds (OfFront (IsToEnd (contents_at l.at.moment l.at.db.now.present) l.root l.at.nodes.now
      l.router) l.advertised-items l.advertised-index) l.fn.links.items l.links.items;
  fits : All CostFits l.fn.links.items → All CostFits l.links.items;
}
