use Rattle.routes.specs.Tables.{HasAnswer}
use Rattle.words.specs.declared.route.Route.{Route}
use Rattle.routes.proofs.LetIn.{IsAmong}
use Rattle.routes.proofs.answered.is_stale_by_sorted.Given as goal

abbrev pub invariant-loop-route : goal.invariant-loop-route
invariant-loop-route l = (r : Route) → IsAmong l.routes l.route-index r → HasAnswer l.answers r
