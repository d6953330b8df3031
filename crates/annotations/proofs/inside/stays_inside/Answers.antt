use Rattle.std.proofs.Common.{◌<◌, arith, below_more, length, rules}
use Rattle.std.proofs.lemmas.Option.{slice_get_within}
use Rattle.isa.specs.declared.instruction.Instruction.{Instruction}
use Rattle.isa.specs.Flow.{BeginsAt}
use Rattle.annotations.specs.CountedCode.{LeadsInside}
use Rattle.annotations.proofs.inside.stays_inside.Goals as goal

pub loop-slot-preserved : goal.loop-slot-preserved
loop-slot-preserved c =
    let here : (i : Instruction) → BeginsAt i c.args.code.now c.loop-slot.slot
    → LeadsInside c.args.code.now c.loop-slot.slot i = c.leads_inside_at.ensures (search rules) in
    below_more _ _ c.loop-slot.invariant here

pub returns : goal.returns
returns c = λ is slot i begins.
    let within : slot < length c.args.code.now = slice_get_within _ _ _ begins in
    c.loop-slot.invariant slot (omega arith) i begins
