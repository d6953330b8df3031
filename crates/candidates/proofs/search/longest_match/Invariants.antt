use Rattle.std.proofs.Common.{◌≤◌}
use Rattle.candidates.proofs.Ordered.{AreShorter}
use Rattle.candidates.proofs.search.longest_match.Given as goal

abbrev pub invariant-loop-length : goal.invariant-loop-length
invariant-loop-length l = AreShorter l.routes l.address l.length × (l.length ≤ 33)

abbrev pub decreases-loop-length : goal.decreases-loop-length
decreases-loop-length l = l.length
