use Rattle.std.proofs.Common.{take}
use Rattle.routes.proofs.Listed.{Among, Listed}
use Rattle.routes.proofs.best.routes_in_order.Given as goal

abbrev pub invariant-loop-offer : goal.invariant-loop-offer
invariant-loop-offer l = Listed (Among (take l.offer-index l.offers)) l.routes.items
