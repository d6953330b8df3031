use Rattle.std.proofs.Common.{◌≡◌}
use Rattle.worker_tests.proofs.journals.play_rows.Given as goal

abbrev pub invariant-loop-number : goal.invariant-loop-number
invariant-loop-number g l = l.share.parts ≡ l.fn.share.parts
