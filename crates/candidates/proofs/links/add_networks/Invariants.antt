use Rattle.std.proofs.Common.{◌≤◌}
use Rattle.std.specs.List.{All}
use Rattle.candidates.specs.Graphs.{Adds, CostFits}
use Rattle.candidates.proofs.Steps.{WalkedTo}
use Rattle.candidates.proofs.links.add_networks.Given as goal

abbrev pub invariant-loop-at : goal.invariant-loop-at
invariant-loop-at l = record {
  low : l.first ≤ l.at;
  adds : Adds (WalkedTo l.root l.entries l.router l.lsa.links l.at) l.fn.links.items l.links.items;
  fits : All CostFits l.fn.links.items → All CostFits l.links.items;
}
