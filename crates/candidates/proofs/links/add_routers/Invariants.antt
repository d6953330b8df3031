use Rattle.std.specs.List.{All}
use Rattle.candidates.specs.Graphs.{Adds, CostFits}
use Rattle.candidates.specs.Links.{IsToRouter}
use Rattle.candidates.proofs.Lists.{OfFront}
use Rattle.candidates.proofs.links.add_routers.Given as goal

abbrev pub invariant-loop-advertised : goal.invariant-loop-advertised
invariant-loop-advertised l = record {
  adds : Adds (OfFront (IsToRouter l.root l.area.nodes.now l.area.entries.now l.router)
      l.advertised-items
      l.advertised-index) l.fn.links.items l.links.items;
  fits : All CostFits l.fn.links.items → All CostFits l.links.items;
}
