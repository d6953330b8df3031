-- Routes that are all let in, since no program stands at `veto`.
use Rattle.std.proofs.Common.{◌≡◌, List, [], ◌∷◌, map, refl, sym, subst}
use mathlib.Core.List.{IsPrefix}
use Rattle.words.specs.Numbers.{Moment}
use Rattle.words.specs.declared.route.Route.{Route}
use Rattle.words.specs.declared.route.TableRow.{TableRow}
use Rattle.maps.specs.Words.{SeatView}
use Rattle.hooks.specs.declared.operation.LoaderOperation.{LoaderOperation}
use Rattle.hooks.specs.Answered.{AreAnswered, IsAnswered}
use Rattle.hooks.specs.Questions.{RouteAnswer, veto_input}
use Rattle.hooks.specs.Vacant.{IsAnsweredWithoutSeat, let_in_answer}
use Rattle.hooks.proofs.Fronts.{prefix_self}
use Rattle.turns.specs.Askers.{AreVetoes}

module _ (seat : SeatView) (moment : Moment) (rows : List TableRow) where
  -- what was learnt by a reading is known at each later question
  let_in_each : (known now : List LoaderOperation) (routes : List Route) → IsPrefix known now
      → ((route : Route) → IsAnswered known now seat seat (veto_input route moment rows) 0)
      → AreAnswered known now seat seat moment rows routes (map (let_in_answer moment) routes)
  let_in_each known now [] begins none = (begins, refl)
  let_in_each known now (route ∷ routes) begins none = (
    now,
    seat,
    record { on = refl; at = refl; answered = none route },
    let_in_each now now routes (prefix_self now) (λ r. record {
      labels = (none r).labels;
      begins = prefix_self now;
      made = (none r).made;
      answers = (none r).answers;
    }),
  )

  pub all_let_in : (known now : List LoaderOperation) (routes : List Route)
      (answers : List RouteAnswer) → IsPrefix known now
      → answers ≡ map (let_in_answer moment) routes
      → ((route : Route) (rows : List TableRow)
      → IsAnsweredWithoutSeat known now (veto_input route moment rows) 0)
      → AreVetoes (record { known = known; seat = seat }) (record { known = now; seat = seat })
      moment rows routes answers
  all_let_in known now routes answers begins are none =
      subst (λ l. AreAnswered known now seat seat moment rows routes l) (sym are)
      (let_in_each known now routes begins (λ route. none route rows seat))
