-- Which question got no reading, of those that were asked in turn.
use Rattle.std.proofs.Common.{List, [], ◌∷◌, Option, Some, None, IfOk, arith}
use Rattle.std.specs.List.{Contains}
use Rattle.std.specs.Prelude.{Result, Ok, Err, IfNone}
use Rattle.words.specs.Numbers.{Moment}
use Rattle.words.specs.declared.route.Route.{Route}
use Rattle.words.specs.declared.route.TableRow.{TableRow}
use Rattle.maps.specs.Words.{SeatView}
use Rattle.hooks.specs.declared.operation.LoaderOperation.{LoaderOperation}
use Rattle.hooks.specs.Answered.{AreAnsweredInPart}
use Rattle.routes.proofs.Lists.{first_is}

-- the first one, about which nothing is to be said
pub first_unread : {V E : Type 0} (before now : List LoaderOperation) (old new : SeatView)
    (moment : Moment) (rows : List TableRow) (routes : List Route) (r : Result (Option V) E)
    → IfOk r (λ o. IfNone o (AreAnsweredInPart before now old new moment rows routes))
    → IfOk r (λ o. IfNone o ((route : Route) × Contains routes route × Unit {0}))
first_unread before now old new moment rows routes (Err e) h = tt
first_unread before now old new moment rows routes (Ok (Some x)) h = tt
first_unread before now old new moment rows [] (Ok None) h = absurd (omega (arith, h.2))
first_unread before now old new moment rows (route ∷ routes) (Ok None) h =
    (route, first_is route routes, tt)
