use Rattle.std.proofs.Common.{◌≡◌, take, map}
use Rattle.asm.specs.Views.{parts_of}
use Rattle.asm.proofs.statements.statements_of.Given as goal

-- the statements so far
abbrev pub invariant-loop-open : goal.invariant-loop-open
invariant-loop-open l = l.statements.items ≡ map parts_of (take l.open-index l.before)
