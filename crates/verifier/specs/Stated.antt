-- The states of an accepted program's runs at the slots that have statements.
use Rattle.std.specs.Prelude.{◌≡◌, ℕ, List, Some}
use Rattle.isa.specs.declared.code.Slot.{Slot}
use Rattle.isa.specs.declared.hook.Hook.{Hook}
use Rattle.object.specs.Statements.{StatementParts}
use Rattle.machine.specs.declared.state.State.{State as Machine}
use Rattle.machine.specs.Given.{Given}
use Rattle.machine.specs.Label.{Label}
use Rattle.machine.specs.Runs.{Run}
use Rattle.machine.specs.State.{setting_of}
use Rattle.kinds.specs.Stated.{GivesStated, MeetsStatement}
use Rattle.verifier.specs.SegmentsStated.{statement_at}

-- Each run that reaches a slot with a statement, on any input and whatever the maps answer, finds
-- the machine as stated, as far as the domain distinguishes numbers.
abbrev pub RunsMeetStatements : {D : Type 0} → (D → ℕ → Type 0) → GivesStated D → List Slot → Hook
    → List StatementParts → Type 0
RunsMeetStatements contains gives code hook statements =
    (input : Given) (n : ℕ) (labels : List Label) (machine : Machine) (statement : StatementParts)
    → Run (setting_of code hook input) n labels machine
    → statement_at statements machine.slot ≡ Some statement
    → MeetsStatement contains gives statement machine
