use Rattle.std.proofs.Common.{length}
use Rattle.isa.proofs.Fronts.{HasRead}
use Rattle.isa.proofs.decoding.want_of_memory.Given as goal

-- `slot` slots were read, and what is left spells the rest of what the bytes spell.
abbrev pub invariant-loop-rest : goal.invariant-loop-rest
invariant-loop-rest l = HasRead l.bytes l.rest l.slot

abbrev pub decreases-loop-rest : goal.decreases-loop-rest
decreases-loop-rest l = length l.rest
