use Rattle.routes.specs.Orders.{answer_cmp}
use Rattle.routes.proofs.Adjacent.{UpTo}
use Rattle.routes.proofs.order.are_in_order.Given as goal

abbrev pub invariant-loop-at : goal.invariant-loop-at
invariant-loop-at l = UpTo answer_cmp l.answers l.at
