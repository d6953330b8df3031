use Rattle.std.proofs.Common.{◌≡◌}
use Rattle.worker_tests.proofs.journals.call_often.Given as goal

abbrev pub invariant-loop-time : goal.invariant-loop-time
invariant-loop-time g l = l.share.parts ≡ l.fn.share.parts
