use Rattle.std.proofs.Common.{◌≡◌, drop, map}
use Rattle.asm.specs.Assembling.{has_slot}
use Rattle.asm.specs.Views.{parts_of}
use Rattle.asm.proofs.assembling.has_slot.Given as goal

-- no statement so far has the slot
abbrev pub invariant-loop-statement : goal.invariant-loop-statement
invariant-loop-statement l = has_slot (map parts_of l.statements) l.slot
    ≡ has_slot (map parts_of (drop l.statement-index l.statements)) l.slot
