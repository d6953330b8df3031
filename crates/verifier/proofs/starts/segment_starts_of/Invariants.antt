use Rattle.std.proofs.Common.{drop}
use Rattle.verifier.proofs.SegmentStarts.{AreFoundSoFar}
use Rattle.verifier.proofs.starts.segment_starts_of.Given as goal

abbrev pub invariant-loop-statement : goal.invariant-loop-statement
invariant-loop-statement g l =
    AreFoundSoFar g.D.Domain.contains g.D.Domain.stated_gives l.statements
    (drop l.statement-index l.statements) l.size l.segment_starts.items
