use Rattle.std.proofs.Common.{drop}
use Rattle.object.proofs.Orders.{Leaves}
use Rattle.object.proofs.object.are_in_order.Given as goal

abbrev pub invariant-loop-statement : goal.invariant-loop-statement
invariant-loop-statement l = Leaves l.least l.slots (drop l.statement-index l.statements)
    l.statements
