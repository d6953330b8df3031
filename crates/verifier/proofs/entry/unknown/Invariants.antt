use Rattle.std.proofs.Common.{◌≡◌, length}
use Rattle.verifier.proofs.entry.unknown.Given as goal

-- one register for each iteration
abbrev pub invariant-loop-register : goal.invariant-loop-register
invariant-loop-register g l = length l.kinds.items ≡ l.register
