use Rattle.std.proofs.Common.{◌≡◌, length, take}
use Rattle.candidates.specs.Borders.{HasLengths}
use Rattle.candidates.proofs.search.lengths_of.Given as goal

abbrev pub invariant-loop-route : goal.invariant-loop-route
invariant-loop-route l = HasLengths (take l.route-index l.routes) l.lengths
    × (length l.lengths ≡ 33)
