-- What was answered by an asker was answered by one that knew less, at the same seat.
use Rattle.std.proofs.Common.{inl, inr, refl, ℕ, List, [], ◌∷◌}
use mathlib.Core.List.{IsPrefix}
use Rattle.words.specs.Numbers.{Moment}
use Rattle.words.specs.declared.route.External.{External}
use Rattle.words.specs.declared.route.Route.{Route}
use Rattle.words.specs.declared.route.TableRow.{TableRow}
use Rattle.maps.specs.Words.{SeatView}
use Rattle.machine.specs.Given.{Given}
use Rattle.hooks.specs.declared.operation.LoaderOperation.{LoaderOperation}
use Rattle.hooks.specs.Questions.{ExternalAnswer, RouteAnswer}
use Rattle.hooks.proofs.Fronts.{prefix_trans}
use Rattle.flood.specs.declared.event.Event.{Event}
use Rattle.turns.specs.Askers.{AreVetoes, AskerState, IsAnsweredAt}
use Rattle.turns.specs.Turns.{AreAnswersAsked, AreBeside, IsInstall, IsRedistribute, IsTagOn}
use Rattle.turns.specs.Turns.{Offers}
use Rattle.turns.proofs.Askers.{answered_from}

module _ (known more : List LoaderOperation) (seat : SeatView) (new : AskerState)
    (longer : IsPrefix known more) where
  abbrev old : AskerState
  old = record { known = known; seat = seat }

  abbrev then : AskerState
  then = record { known = more; seat = seat }

  answer_sooner : (now : AskerState) (input : Given) (word : ℕ) → IsAnsweredAt then now input word
      → IsAnsweredAt old now input word
  answer_sooner now input word h = answered_from old then now input word longer refl h

  vetoes_sooner : (moment : Moment) (rows : List TableRow) (routes : List Route)
      (answers : List RouteAnswer) → AreVetoes then new moment rows routes answers
      → AreVetoes old new moment rows routes answers
  vetoes_sooner moment rows [] [] h = (prefix_trans known more new.known longer h.0, h.1)
  vetoes_sooner moment rows [] (a ∷ answers) h = absurd h
  vetoes_sooner moment rows (route ∷ routes) [] h = absurd h
  vetoes_sooner moment rows (route ∷ routes) (a ∷ answers) h = (
    h.0,
    h.1,
    record {
      on = h.2.on;
      at = h.2.at;
      answered = answer_sooner (record { known = h.0; seat = h.1 }) _ a.word h.2.answered;
    },
    h.3,
  )

  pub install_sooner : (offers : Offers) (moment : Moment) (e : Event)
      → IsInstall offers then new moment e → IsInstall offers old new moment e
  install_sooner offers moment e (candidates, rows, answers, offered, vetoes, is) =
      (candidates, rows, answers, offered, vetoes_sooner moment rows candidates answers vetoes, is)

  tag_sooner : (now : AskerState) (external : External) (moment : Moment) (rows : List TableRow)
      (a : ExternalAnswer) → IsTagOn then now external moment rows a
      → IsTagOn old now external moment rows a
  tag_sooner now external moment rows a h = record {
    destination = h.destination;
    asked = h.asked;
    answered = answer_sooner now _ a.word h.answered;
  }

  beside_sooner : (external : External) (moment : Moment) (rows : List TableRow)
      (tag price : ExternalAnswer) → AreBeside then new external moment rows tag price
      → AreBeside old new external moment rows tag price
  beside_sooner external moment rows tag price (between, tagged, priced) =
      (between, tag_sooner between external moment rows tag tagged, priced)

  asked_sooner : (offers : Offers) (external : External) (moment : Moment)
      (tag price : ExternalAnswer) → AreAnswersAsked offers then new external moment tag price
      → AreAnswersAsked offers old new external moment tag price
  asked_sooner offers external moment tag price (inl (candidates, rows, offered, beside)) =
      inl (candidates, rows, offered, beside_sooner external moment rows tag price beside)
  asked_sooner offers external moment tag price (inr beside) =
      inr (λ rows. beside_sooner external moment rows tag price (beside rows))

  pub redistribute_sooner : (offers : Offers) (external : External) (moment : Moment) (e : Event)
      → IsRedistribute offers then new external moment e
      → IsRedistribute offers old new external moment e
  redistribute_sooner offers external moment e (tag, price, asked, is) =
      (tag, price, asked_sooner offers external moment tag price asked, is)
