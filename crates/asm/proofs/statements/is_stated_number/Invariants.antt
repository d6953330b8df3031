use Rattle.std.proofs.Common.{◌≡◌, drop}
use Rattle.asm.specs.Rules.{is_stated_number}
use Rattle.asm.proofs.statements.is_stated_number.Given as goal

-- no line so far has decided
abbrev pub invariant-loop-line : goal.invariant-loop-line
invariant-loop-line l = is_stated_number l.rest l.register
    ≡ is_stated_number (drop l.line-index l.rest) l.register
