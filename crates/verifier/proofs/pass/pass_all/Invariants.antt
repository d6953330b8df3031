use Rattle.std.proofs.Common.{◌≡◌, ◌⊎◌, ℕ, ◌<◌, ◌-◌, List, length}
use Rattle.isa.specs.Flow.{Begins}
use Rattle.object.specs.Statements.{StatementParts}
use Rattle.verifier.specs.Refusals.{IsPassedTo, IsWellMade}
use Rattle.verifier.specs.SegmentsStated.{AreSegmentStarts}
use Rattle.verifier.specs.Places.{segment_of}
use Rattle.verifier.specs.Segments.{IsFine, IsCurrentUnlessStated}
use Rattle.verifier.specs.Kept.{HasRecordedRegion}
use Rattle.verifier.specs.Pass.{ComesPlainly, HasRank, IsPlainProgram}
use Rattle.verifier.proofs.pass.pass_all.Given as goal

-- The instructions so far are fine and well made, and their regions are recorded. What is known
-- holds of every visit of this slot, which is the end or begins an instruction. Of a plain program,
-- what is filled is known.
abbrev pub invariant-loop-slot : goal.invariant-loop-slot
invariant-loop-slot g l = record {
  fine : (k : ℕ) → k < l.slot → Begins l.code k
      → IsFine g.D.Domain.contains l.code l.hook l.segment_starts l.entry k;
  kept : (k : ℕ) → k < l.slot → Begins l.code k
      → HasRecordedRegion g.D.Domain.contains l.code l.hook l.segment_starts l.entry
      l.regions.items k;
  long : length l.regions.items ≡ length l.code;
  current : IsCurrentUnlessStated g.D.Domain.contains l.code l.hook l.segment_starts l.entry l.slot
      (segment_of l.segment_starts l.entry l.begun) l.known;
  place : (l.slot ≡ length l.code) ⊎ Begins l.code l.slot;
  passed : IsPassedTo l.is_passed_to l.code l.slot;
  plain : (statements : List StatementParts) (entry_rank : ℕ)
      → IsPlainProgram g.D.Domain.contains l.code entry_rank statements l.segment_starts
      → HasRank l.entry entry_rank → ComesPlainly l.code entry_rank statements l.slot
      (segment_of l.segment_starts l.entry l.begun) l.known;
  made : (statements : List StatementParts)
      → AreSegmentStarts g.D.Domain.contains statements l.segment_starts → (k : ℕ) → k < l.slot
      → IsWellMade l.code statements k;
}

-- the slots that are left
abbrev pub decreases-loop-slot : goal.decreases-loop-slot
decreases-loop-slot g l = length l.code - l.slot
