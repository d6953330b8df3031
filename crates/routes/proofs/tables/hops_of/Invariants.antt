use Rattle.std.proofs.Common.{◌≡◌, length, take}
use Rattle.std.specs.List.{All}
use Rattle.routes.specs.Loops.{IsAmong}
use Rattle.routes.specs.LoopTables.{next_hops}
use Rattle.routes.proofs.tables.hops_of.Given as goal

abbrev pub invariant-loop-link : goal.invariant-loop-link
invariant-loop-link l =
    (l.hops.items ≡ next_hops l.ways (take l.link-index l.links))
    × All (IsAmong (length l.ways)) l.hops.items
