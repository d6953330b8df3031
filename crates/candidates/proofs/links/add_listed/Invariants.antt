use Rattle.std.specs.List.{All}
use Rattle.candidates.specs.Graphs.{Adds, CostFits}
use Rattle.candidates.specs.Links.{IsToListed}
use Rattle.candidates.proofs.Lists.{OfFront}
use Rattle.candidates.proofs.links.add_listed.Given as goal

abbrev pub invariant-loop-router : goal.invariant-loop-router
invariant-loop-router l = record {
  adds : Adds (OfFront (IsToListed l.area.nodes.now l.area.entries.now l.id) l.router-items
      l.router-index) l.fn.links.items l.links.items;
  fits : All CostFits l.fn.links.items → All CostFits l.links.items;
}
