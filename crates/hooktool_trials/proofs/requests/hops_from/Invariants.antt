use Rattle.std.proofs.Common.{◌≡◌}
use Rattle.hooktool_trials.specs.Questions.{hops_from}
use Rattle.hooktool_trials.proofs.requests.hops_from.Given as goal

abbrev pub invariant-loop-k : goal.invariant-loop-k
invariant-loop-k l = l.hops ≡ hops_from l.first l.k
