use Rattle.std.proofs.Common.{◌≡◌, List}
use Rattle.words.specs.declared.route.Route.{Route}
use Rattle.operator.specs.Shown.{IsPartOf}
use Rattle.routes.specs.Rows.{rows_of}
use Rattle.operator.proofs.Begun.{IsBegun}
use Rattle.operator.proofs.lists.routes_of.Given as goal

abbrev pub invariant-loop-route : goal.invariant-loop-route
invariant-loop-route l = (table : List Route) → IsPartOf l.candidates table → l.rows ≡ rows_of table
    → IsBegun l.candidates table l.routes.items l.route-index
