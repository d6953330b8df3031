use Rattle.std.proofs.Common.{sym}
use Rattle.asm.proofs.Whole.{above_all}
use Rattle.asm.proofs.assembling.order_fault.Goals as goal

pub returns-then-slot-last : goal.returns-then-slot-last
returns-then-slot-last c = sym (above_all _ c.args.last c.in_ok-last.last c.args.slot
    c.in_ok-last.was c.requires c.if-slot-last.true)
