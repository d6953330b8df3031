-- Answers if no program stands at the hooks.
use Rattle.std.proofs.Common.{◌≡◌, inl, inr, ℕ, List, refl}
use Rattle.words.specs.Numbers.{Moment}
use Rattle.words.specs.declared.route.External.{External}
use Rattle.words.specs.declared.route.Route.{Route}
use Rattle.words.specs.declared.route.TableRow.{TableRow}
use Rattle.maps.specs.Words.{SeatView}
use Rattle.hooks.specs.declared.operation.LoaderOperation.{LoaderOperation}
use Rattle.machine.specs.Given.{Given}
use Rattle.hooks.specs.Answered.{IsAnswered}
use Rattle.hooks.specs.Questions.{ExternalAnswer, price_input, tag_input}
use Rattle.hooks.specs.Vacant.{IsAnsweredWithoutSeat}
use Rattle.event_rules.specs.Routers.{Router}
use Rattle.flood.specs.declared.event.Event.TheVariants as event
use Rattle.turns.specs.Laws.{AnswersAreBesideATable}
use Rattle.turns.specs.Turns.{AreAnswersAsked, AreBeside, IsOfferedBySome, IsRedistribute, Offers}
use Rattle.turns.specs.Askers.{AskerState}
use Rattle.hooks.proofs.Fronts.{prefix_self}
use Rattle.turns.proofs.Asked.{is_price, is_tag}

pub configured : (offers : Offers) (known now : List LoaderOperation) (seat : SeatView)
    (external : External) (moment : Moment) (tag price : ExternalAnswer)
    → (tag.external ≡ external) × (tag.moment ≡ moment)
    → (price.external ≡ external) × (price.moment ≡ moment)
    → ((rows : List TableRow) → IsAnsweredWithoutSeat known now
    (tag_input external moment rows) tag.word)
    → ((rows : List TableRow) → IsAnsweredWithoutSeat known now
    (price_input external moment rows) price.word)
    → IsRedistribute offers (record { known = known; seat = seat })
    (record { known = now; seat = seat }) external moment (event.Redistribute tag price)
configured offers known now seat external moment tag price on_tag on_price tagged priced =
    let still : (input : Given) (word : ℕ) → IsAnsweredWithoutSeat known now input word
    → IsAnswered now now seat seat input word =
    λ input word h. record {
      labels = (h seat).labels;
      begins = prefix_self now;
      made = (h seat).made;
      answers = (h seat).answers;
    } in (
      tag,
      price,
      inr (λ rows. (
        record { known = now; seat = seat },
        is_tag external moment rows tag on_tag (tagged rows seat),
        is_price external moment rows price on_price (still _ price.word (priced rows)),
      )),
      refl,
    )

asked_beside : (origin : Router) (old new : AskerState) (moment : Moment)
    (external : External) (candidates : List Route) (rows : List TableRow)
    (tag price : ExternalAnswer) → IsOfferedBySome origin candidates rows
    → AreAnswersAsked (IsOfferedBySome origin) old new external moment tag price
    → (candidates : List Route) × (rows : List TableRow)
    × IsOfferedBySome origin candidates rows
    × AreBeside old new external moment rows tag price
asked_beside origin old new moment external candidates rows tag price offered (inl beside) =
    beside
asked_beside origin old new moment external candidates rows tag price offered (inr beside) =
    (candidates, rows, offered, beside rows)

pub beside_a_table : AnswersAreBesideATable
beside_a_table origin candidates rows old new moment external e offered (tag, price, asked, is) =
    let b = asked_beside origin old new moment external candidates rows tag price offered asked
    in (b.0, b.1, tag, price, b.2, b.3, is)
