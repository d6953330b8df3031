-- How a hook without a program answers an input.
use Rattle.std.proofs.Common.{◌≡◌, ℕ, ◌<◌, ◌^◌, List, [], Option, Some, None, MatchOption, refl}
use Rattle.std.proofs.Common.{◌∙◌, rules}
use mathlib.Core.List.{IsPrefix}
use Rattle.isa.specs.declared.hook.Hook.{Hook}
use Rattle.isa.specs.declared.hook.Hook.TheVariants.{Tag, Price, Veto}
use Rattle.machine.specs.Given.{Given}
use Rattle.machine.specs.Input.{IsOfHook}
use Rattle.machine.specs.Label.{Label}
use Rattle.words.specs.Numbers.{Moment}
use Rattle.words.specs.declared.route.External.{External}
use Rattle.words.specs.declared.route.Route.{Route}
use Rattle.words.specs.declared.route.TableRow.{TableRow}
use Rattle.helpers.proofs.Seats.{makes_none}
use Rattle.hooks.specs.declared.operation.LoaderOperation.{LoaderOperation}
use Rattle.hooks.specs.Laws.{DefaultsAreConfigured}
use Rattle.hooks.specs.Operations.{Program, RunsTo, default_of, leaves}
use Rattle.hooks.specs.Questions.{price_input, tag_input, veto_input}
use Rattle.hooks.specs.Vacant.{IsAnsweredWithoutSeat, IsVacant}

by_default : (hook : Hook) (input : Given) (word : ℕ) (labels : List Label) (o : Option Program)
    → o ≡ None → labels ≡ [] → word ≡ default_of hook input
    → MatchOption o ((labels ≡ []) × (word ≡ default_of hook input))
    (λ program. RunsTo program input labels word)
by_default hook input word labels None vacant none is = (none, is)
by_default hook input word labels (Some p) vacant none is = absurd (cc (vacant))

pub answered_by_none : (hook : Hook) (before now : List LoaderOperation) (input : Given) (word : ℕ)
    → IsPrefix before now → IsVacant hook now → IsOfHook hook input → word ≡ default_of hook input
    → IsAnsweredWithoutSeat before now input word
answered_by_none hook before now input word begins vacant asked is seat = record {
  labels = [];
  begins = begins;
  made = makes_none seat;
  answers = (hook, asked, by_default hook input word [] (leaves hook now) vacant refl is);
}

defaults : DefaultsAreConfigured
defaults external moment rows = search rules

pub configured_tag : (external : External) (moment : Moment) (rows : List TableRow)
    → external.tag < 2 ^ 32 → external.tag ≡ default_of Tag (tag_input external moment rows)
configured_tag external moment rows fits = cc ((defaults external moment rows).0 fits)

pub configured_metric : (external : External) (moment : Moment) (rows : List TableRow)
    → external.metric < 2 ^ 32 → external.metric
    ≡ default_of Price (price_input external moment rows)
configured_metric external moment rows fits = cc ((defaults external moment rows).1 fits)

module _ (before now : List LoaderOperation) (external : External) (moment : Moment)
    (begins : IsPrefix before now) where
  pub tag_by_none : (word : ℕ) → IsVacant Tag now → external.tag < 2 ^ 32 → word ≡ external.tag
      → (rows : List TableRow)
      → IsAnsweredWithoutSeat before now (tag_input external moment rows) word
  tag_by_none word vacant fits is rows =
      answered_by_none Tag before now (tag_input external moment rows) word begins vacant refl
      (is ∙ configured_tag external moment rows fits)

  pub price_by_none : (word : ℕ) → IsVacant Price now → external.metric < 2 ^ 32
      → word ≡ external.metric → (rows : List TableRow)
      → IsAnsweredWithoutSeat before now (price_input external moment rows) word
  price_by_none word vacant fits is rows =
      answered_by_none Price before now (price_input external moment rows) word begins vacant refl
      (is ∙ configured_metric external moment rows fits)

pub veto_by_none : (before now : List LoaderOperation) (moment : Moment) → IsPrefix before now
    → IsVacant Veto now → (route : Route) (rows : List TableRow)
    → IsAnsweredWithoutSeat before now (veto_input route moment rows) 0
veto_by_none before now moment begins vacant route rows =
    answered_by_none Veto before now (veto_input route moment rows) 0 begins vacant refl refl
