use Rattle.std.proofs.Common.{◌≡◌, ℕ, length, None}
use Rattle.verifier.specs.Places.{segment_start_at}
use Rattle.verifier.proofs.starts.unstated.Given as goal

abbrev pub invariant-loop-index : goal.invariant-loop-index
invariant-loop-index g l = record {
  long : length l.segment_starts.items ≡ l.index;
  none : (slot : ℕ) → segment_start_at l.segment_starts.items slot ≡ None;
}
