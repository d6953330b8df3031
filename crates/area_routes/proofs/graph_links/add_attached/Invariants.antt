use Rattle.std.specs.List.{All}
use Rattle.candidates.specs.Graphs.{Adds, CostFits}
use Rattle.candidates.proofs.Lists.{OfFront}
use Rattle.area_routes.specs.GraphLinks.{IsAttached}
use Rattle.routes.specs.Contents.{contents_at}
use Rattle.area_routes.proofs.graph_links.add_attached.Given as goal

abbrev pub invariant-loop-router : goal.invariant-loop-router
invariant-loop-router l = record {
  adds : Adds (OfFront (IsAttached (contents_at l.at.moment l.at.db.now.present)
      l.at.nodes.now l.id)
      l.router-items l.router-index) l.fn.links.items l.links.items;
  fits : All CostFits l.fn.links.items → All CostFits l.links.items;
}
