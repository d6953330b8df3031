use Rattle.std.specs.List.{All}
use Rattle.candidates.specs.Graphs.{Adds, CostFits}
use Rattle.candidates.specs.Links.{IsOwnTransit}
use Rattle.candidates.proofs.Lists.{OfFront}
use Rattle.candidates.proofs.links.add_own_transits.Given as goal

abbrev pub invariant-loop-advertised : goal.invariant-loop-advertised
invariant-loop-advertised l = record {
  adds : Adds (OfFront (IsOwnTransit l.root l.id l.to) l.advertised-items l.advertised-index)
      l.fn.links.items
      l.links.items;
  fits : All CostFits l.fn.links.items → All CostFits l.links.items;
}
