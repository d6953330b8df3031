-- The answers of hooks without a program.
use Rattle.std.specs.Prelude.{◌≡◌, ◌↔◌, ℕ, IsTrue, List, None}
use Rattle.isa.specs.declared.hook.Hook.{Hook}
use Rattle.isa.specs.declared.hook.Hook.TheVariants.{Tag, Price, Veto}
use Rattle.machine.specs.Given.{Given}
use Rattle.maps.specs.Words.{SeatView}
use Rattle.words.specs.Numbers.{Moment}
use Rattle.words.specs.declared.route.Route.{Route}
use Rattle.hooks.specs.declared.operation.LoaderOperation.{LoaderOperation}
use Rattle.hooks.specs.declared.value.Vacancies.{Vacancies}
use Rattle.hooks.specs.Answered.{IsAnswered}
use Rattle.hooks.specs.Operations.{leaves}
use Rattle.hooks.specs.Questions.{RouteAnswer}

-- the operations leave no program at the hook
abbrev pub IsVacant : Hook → List LoaderOperation → Type 0
IsVacant hook operations = leaves hook operations ≡ None

-- for three hooks, whether the operations leave no program there
pub record AreVacancies (operations : List LoaderOperation) (v : Vacancies) : Type 0 where
  pub tag : IsTrue v.tag ↔ IsVacant Tag operations
  pub price : IsTrue v.price ↔ IsVacant Price operations
  pub veto : IsTrue v.veto ↔ IsVacant Veto operations

-- The operations that the asker knows now answer the input with the word, without a seat: each seat
-- is unchanged. A program that uses none may have answered.
abbrev pub IsAnsweredWithoutSeat : (before now : List LoaderOperation) → Given → (word : ℕ) → Type 0
IsAnsweredWithoutSeat before now input word =
    (seat : SeatView) → IsAnswered before now seat seat input word

-- the answer of `veto` that accepts a route
abbrev pub let_in_answer : Moment → Route → RouteAnswer
let_in_answer moment route = record { route = route; moment = moment; word = 0 }
