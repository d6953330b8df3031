-- What a program's runs in a row are, and what they leave.
use Rattle.std.specs.Prelude.{◌≡◌, ◌<◌, ℕ, List, [], ◌∷◌, length, slice_index}
use Rattle.machine.specs.Given.{Given}
use Rattle.machine.specs.declared.state.State.{State}
use Rattle.maps.specs.Access.{adds_to, last_stored}
use Rattle.maps.specs.Words.{SeatView, fresh}
use Rattle.object.specs.Objects.{ObjectParts}
use Rattle.object.specs.Spelling.{Spells}
use Rattle.interp.specs.ObjectRuns.{HaltsObject, Refuses, RunsObject}
use Rattle.interp.specs.declared.limit.Limit.TheVariants.{Own}
use Rattle.hooktool_trials.specs.Contexts.{asked_context}
use Rattle.hooktool_trials.specs.declared.requests.Question.{Question}
use Rattle.hooktool_trials.specs.Settings.{IsSetUp}
use Rattle.hooktool_trials.specs.declared.error.TrialError.{TrialError}
use Rattle.hooktool_trials.specs.declared.error.TrialError.TheVariants as errors
use Rattle.hooktool_trials.specs.declared.runs.RunEnding.{RunEnding}
use Rattle.hooktool_trials.specs.declared.trial.ObjectTrial.{ObjectTrial}

-- The seat ran the program of the object file that the bytes are once on the input, with this end,
-- for as many instructions as its object allows; and the slot and the registers are those where the
-- machine then stood.
pub record RunsOnce (bytes : List ℕ) (input : Given) (seat : SeatView) (ending : RunEnding)
    (next : SeatView) : Type 0 where
  pub runs : RunsObject bytes Own input seat ending.outcome next
  pub state : State
  pub halts : HaltsObject bytes Own input seat ending.outcome state next
  pub slot : ending.slot ≡ state.slot
  pub registers : ending.registers ≡ state.registers

-- and so several times, one after the other
abbrev pub RunsInARow : List ℕ → Given → SeatView → List RunEnding → SeatView → Type 0
RunsInARow bytes input seat [] last = seat ≡ last
RunsInARow bytes input seat (ending ∷ rest) last =
    (next : SeatView) × RunsOnce bytes input seat ending next
    × RunsInARow bytes input next rest last

-- A seat ran the program on the question, as its object's hook is asked it, with this packet: after
-- the counters and cells were set that it names, and as many times as it says.
pub record IsAsked (bytes packet : List ℕ) (question : Question) (old : SeatView)
    (endings : List RunEnding) (new : SeatView) : Type 0 where
  pub object : ObjectParts
  pub spells : Spells bytes object
  pub input : Given
  pub context : input.context ≡ asked_context object.hook question.asked packet
  pub packet_is : input.packet ≡ packet
  pub rows_are : input.rows ≡ question.rows.items
  pub ready : SeatView
  pub set_up : IsSetUp question.counters.items question.cells.items old ready
  pub runs : RunsInARow bytes input ready endings new
  pub count : length endings ≡ question.times

-- A seat of a new table, that had done nothing, was asked. The counters have what it added, and the
-- cells what it last stored there.
pub record IsTrial (bytes packet : List ℕ) (question : Question) (trial : ObjectTrial)
    : Type 0 where
  pub seat : SeatView
  pub unused : seat ≡ fresh seat.table 0
  pub seat_after : SeatView
  pub asked : IsAsked bytes packet question seat trial.endings.items seat_after
  pub counters : (k : ℕ) → k < 256 → slice_index trial.counters k ≡ adds_to k seat_after.accesses
  pub cells : (j : ℕ) → j < 64 → slice_index trial.cells j ≡ last_stored j seat_after.accesses

-- The bytes have no program, for this reason; of want of memory nothing is claimed.
abbrev pub IsRefusal : List ℕ → TrialError → Type 0
IsRefusal bytes (errors.Program error) = Refuses bytes error
IsRefusal bytes errors.Memory = Unit {0}

-- The seat knows the same of each counter and each cell.
pub record SameNumbers (old new : SeatView) : Type 0 where
  pub counters : (k : ℕ) → adds_to k new.accesses ≡ adds_to k old.accesses
  pub cells : (j : ℕ) → last_stored j new.accesses ≡ last_stored j old.accesses
