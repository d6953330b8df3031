-- What a question that got no reading is refused for.
use Rattle.std.proofs.Common.{◌≡◌, inl, inr, List, refl, subst, sym}
use mathlib.Core.List.{IsPrefix}
use Rattle.words.specs.Numbers.{Moment}
use Rattle.words.specs.declared.route.External.{External}
use Rattle.words.specs.declared.route.Route.{Route}
use Rattle.words.specs.declared.route.TableRow.{TableRow}
use Rattle.hooks.specs.declared.operation.LoaderOperation.{LoaderOperation}
use Rattle.hooks.specs.Questions.{price_input, tag_input, veto_input}
use Rattle.hooks.proofs.Fronts.{prefix_self}
use Rattle.turns.specs.Turns.{IsLacking, RefusesQuestions, Lack, Refuses}
use Rattle.turns.specs.declared.turned.TurnError.TheVariants as turn_error
use Rattle.turns.specs.declared.work.Work.TheVariants as work

pub of_tag : (refuses : Refuses) (external : External) (moment : Moment) (rows : List TableRow)
    → IsLacking refuses (Lack.Reading (tag_input external moment rows))
    → RefusesQuestions refuses (work.Add external) moment turn_error.Away
of_tag refuses external moment rows lacking =
    inl (refl, (tag_input external moment rows, lacking, (rows, inl refl)))

pub of_price : (refuses : Refuses) (external : External) (moment : Moment) (rows : List TableRow)
    → IsLacking refuses (Lack.Reading (price_input external moment rows))
    → RefusesQuestions refuses (work.Add external) moment turn_error.Away
of_price refuses external moment rows lacking =
    inl (refl, (price_input external moment rows, lacking, (rows, inr refl)))

pub of_veto : (refuses : Refuses) (route : Route) (moment : Moment) (rows : List TableRow)
    → IsLacking refuses (Lack.Reading (veto_input route moment rows))
    → RefusesQuestions refuses work.Refresh moment turn_error.Away
of_veto refuses route moment rows lacking =
    inl (refl, (veto_input route moment rows, lacking, (route, rows, refl)))

-- what is known still begins with itself
pub begins : (before now : List LoaderOperation) → now ≡ before → IsPrefix before now
begins before now same = subst (λ (l : List LoaderOperation). IsPrefix before l) (sym same)
    (prefix_self before)
