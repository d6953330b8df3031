-- Answers to questions about a destination.
use Rattle.std.proofs.Common.{◌≡◌, List}
use Rattle.words.specs.Numbers.{Moment}
use Rattle.words.specs.declared.route.External.{External}
use Rattle.words.specs.declared.route.TableRow.{TableRow}
use Rattle.hooks.specs.Questions.{ExternalAnswer, price_input, tag_input}
use Rattle.turns.specs.Askers.{AskerState, IsAnsweredAt}
use Rattle.turns.specs.Turns.{IsPriceOn, IsTagOn}

pub is_tag : {old new : AskerState} (external : External) (moment : Moment) (rows : List TableRow)
    (a : ExternalAnswer) → (a.external ≡ external) × (a.moment ≡ moment)
    → IsAnsweredAt old new (tag_input external moment rows) a.word
    → IsTagOn old new external moment rows a
is_tag external moment rows a on answered =
    record { destination = on.0; asked = on.1; answered = answered }

pub is_price : {old new : AskerState} (external : External) (moment : Moment)
    (rows : List TableRow) (a : ExternalAnswer) → (a.external ≡ external) × (a.moment ≡ moment)
    → IsAnsweredAt old new (price_input external moment rows) a.word
    → IsPriceOn old new external moment rows a
is_price external moment rows a on answered =
    record { destination = on.0; asked = on.1; answered = answered }
