-- The inputs of questions, and their answers.
use Rattle.std.specs.Prelude.{◌≡◌, ℕ, ◌⊎◌, List, []}
use Rattle.isa.specs.declared.hook.Hook.{Hook}
use Rattle.isa.specs.declared.hook.Hook.TheVariants.{Tag, Price, Veto}
use Rattle.machine.specs.Given.{Given}
use Rattle.machine.specs.Label.{Label}
use Rattle.words.specs.declared.route.External.{External}
use Rattle.words.specs.declared.route.Route.{Route}
use Rattle.words.specs.declared.route.TableRow.{TableRow}
use Rattle.words.specs.Numbers.{Moment, InterfaceNumber}
use Rattle.machine.specs.Contexts.{count_context, tag_context, price_context, veto_context}
use Rattle.hooks.specs.Operations.{Program, RunsTo, default_of}

-- `count` has the packet and no rows
abbrev pub count_input : InterfaceNumber → Moment → (packet : List ℕ) → Given
count_input interface moment packet = record {
  context = count_context interface moment packet;
  packet = packet;
  rows = [];
}

-- the others have the rows of a table and no packet
abbrev pub tag_input : External → Moment → List TableRow → Given
tag_input external moment rows =
    record { context = tag_context external moment; packet = []; rows = rows }

abbrev pub price_input : External → Moment → List TableRow → Given
price_input external moment rows =
    record { context = price_context external moment; packet = []; rows = rows }

abbrev pub veto_input : Route → Moment → List TableRow → Given
veto_input route moment rows =
    record { context = veto_context route moment; packet = []; rows = rows }

-- The word of a run of a safe program of the hook, or the default. So it may be any 64-bit word: by
-- which program it was answered is said where the operations are known (`IsAnswered`).
abbrev pub IsAnswer : Hook → Given → (word : ℕ) → Type 0
IsAnswer hook input word =
    ((program : Program) × (labels : List Label) × (program.hook ≡ hook)
    × RunsTo program input labels word)
    ⊎ (word ≡ default_of hook input)

-- an answer on an external destination, and one on a route
pub record ExternalAnswer : Type 0 where
  pub external : External
  pub moment : Moment
  pub word : ℕ

pub record RouteAnswer : Type 0 where
  pub route : Route
  pub moment : Moment
  pub word : ℕ

-- with some rows
abbrev pub IsTag : ExternalAnswer → Type 0
IsTag a = (rows : List TableRow) × IsAnswer Tag (tag_input a.external a.moment rows) a.word

abbrev pub IsPrice : ExternalAnswer → Type 0
IsPrice a = (rows : List TableRow) × IsAnswer Price (price_input a.external a.moment rows) a.word

abbrev pub IsVeto : RouteAnswer → Type 0
IsVeto a = (rows : List TableRow) × IsAnswer Veto (veto_input a.route a.moment rows) a.word
