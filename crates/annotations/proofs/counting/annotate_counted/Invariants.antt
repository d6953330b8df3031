use Rattle.std.proofs.Common.{◌≡◌, ◌⊎◌, []}
use Rattle.annotations.specs.CountedCode.{StaysInside}
use Rattle.annotations.proofs.counting.annotate_counted.Given as goal

-- only code that stays inside of itself gets heads
abbrev pub invariant-loop : goal.invariant-loop
invariant-loop l = (l.heads.slots.items ≡ []) ⊎ StaysInside l.code
