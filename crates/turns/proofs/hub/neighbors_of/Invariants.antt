use Rattle.std.specs.Prelude.{◌<◌}
use Rattle.turns.specs.Turns.{AreNeighbors}
use Rattle.turns.proofs.hub.neighbors_of.Given as goal

abbrev pub invariant-loop-interface : goal.invariant-loop-interface
invariant-loop-interface g l = record {
  neighbors : AreNeighbors (g.B.Taker.neighbor_at l.book) l.interface l.neighbors.items;
  own : 0 < l.interface → g.B.Taker.began l.book;
}
