use Rattle.routes.proofs.LetIn.{AreLetInOf}
use Rattle.routes.proofs.answered.routes_let_in.Given as goal

abbrev pub invariant-loop-route : goal.invariant-loop-route
invariant-loop-route l = AreLetInOf l.answers l.routes l.route-index l.part.items
