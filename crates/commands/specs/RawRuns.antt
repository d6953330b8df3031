-- What is told of runs of bare code.
use Rattle.std.specs.Prelude.{◌≡◌, ℕ, ◌+◌, ◌<◌, List, [], ◌∷◌, ◌++◌, length, map, replicate}
use Rattle.std.specs.Prelude.{slice_index, slice_index_or, codes, decimal, string_bytes, Result, Ok}
use Rattle.std.specs.Prelude.{Err, is_err, if◌then◌else◌, nat_lt}
use Rattle.std.specs.List.{list_any, sum_by}
use Rattle.isa.specs.declared.code.Slot.{Slot}
use Rattle.isa.specs.declared.hook.Hook.{Hook}
use Rattle.isa.specs.declared.decoding.DecodeError.{DecodeError}
use Rattle.isa.specs.Refusals as refusals
use Rattle.isa.specs.Spelling as code
use Rattle.machine.specs.State.{Setting}
use Rattle.maps.specs.Access.{adds_to}
use Rattle.maps.specs.Words.{SeatView, SharedWords, fresh}
use Rattle.word_machine.specs.declared.ending.Run.{Run}
use Rattle.interp.specs.declared.trap.Trap.{Trap}
use Rattle.interp.specs.Outcome.{Outcome, trap_number}
use Rattle.verifier.specs.Refusals.{budget}
use Rattle.commands.specs.declared.fault.CommandError.{CommandError}
use Rattle.commands.specs.declared.raw.Finished.{Finished}
use Rattle.commands.specs.declared.report.CommandOutput.{CommandOutput}
use Rattle.commands.specs.Statuses.{fault_of_refusal}

-- how the seat of this number ended
abbrev pub seat_line : ℕ → Result Run Trap → List ℕ
seat_line number (Ok run) = codes "seat "
    ++ (decimal number
    ++ (codes " answer "
    ++ (decimal run.answer ++ (codes " used " ++ (decimal run.used ++ 10 ∷ [])))))
seat_line number (Err trap) = codes "seat "
    ++ (decimal number ++ (codes " trap " ++ (decimal (trap_number trap) ++ 10 ∷ [])))

abbrev pub seat_lines : ℕ → List Finished → List ℕ
seat_lines number [] = []
seat_lines number (one ∷ rest) = seat_line number one.outcome ++ seat_lines (number + 1) rest

-- a counter above 0
abbrev pub counter_line : ℕ → ℕ → List ℕ
counter_line index sum = if nat_lt 0 sum
    then codes "counter " ++ (decimal index ++ (codes " " ++ (decimal sum ++ 10 ∷ []))) else []

abbrev pub counter_lines : ℕ → List ℕ → List ℕ
counter_lines index [] = []
counter_lines index (sum ∷ rest) = counter_line index sum ++ counter_lines (index + 1) rest

-- what each seat runs: the code at the hook, on a context of 64 zeros, no packet and no rows
abbrev pub setting_of : List Slot → Hook → Setting
setting_of slots hook =
    record {
      code = slots;
      hook = hook;
      input = record { context = replicate 64 0; packet = []; rows = [] };
    }

-- the seat ran that once, for as many instructions as any program may take
abbrev pub Ran : Setting → SeatView → Finished → Type 0
Ran setting seat one = Outcome setting budget seat one.outcome one.seat

-- and so did each of these seats, in their order
abbrev pub EachRan : Setting → List SeatView → List Finished → Type 0
EachRan setting seats finished = (i : ℕ) (s : SeatView) (d : Finished) → i < length seats
    → Ran setting (slice_index_or seats i s) (slice_index_or finished i d)

-- Each of the seats of one table, that had done nothing, ran the code once at the hook. Each seat's
-- end is told in their order, and then the counters above 0, which are the sums of all that the
-- seats added.
pub record IsToldOfRuns (slots : List Slot) (hook : Hook) (seats : ℕ)
    (report : CommandOutput) : Type 0 where
  pub shared : SharedWords
  pub dealt : shared.seats ≡ seats
  pub finished : List Finished
  pub each : length finished ≡ seats
  pub ran : (i : ℕ) (d : Finished) → i < seats
      → Ran (setting_of slots hook) (fresh shared.table i) (slice_index_or finished i d)
  pub sums : List ℕ
  pub counters : length sums ≡ 256
  pub exact : (k : ℕ) → k < 256
      → slice_index sums k ≡ sum_by (λ s. adds_to k s.accesses) (map (λ one. one.seat) finished)
  pub told : string_bytes report.text ≡ seat_lines 1 finished ++ counter_lines 0 sums
  pub stuck : report.is_refused ≡ list_any (λ one. is_err one.outcome) finished

-- The bytes spell code, and what is told is of its runs.
pub record IsRawReport (hook : Hook) (seats : ℕ) (report : CommandOutput) : Type 0 where
  pub bytes : List ℕ
  pub slots : List Slot
  pub decoded : code.Spells bytes slots
  pub runs : IsToldOfRuns slots hook seats report

-- the refusal of bytes that are no code
pub record IsBareRefused (bytes : List ℕ) (fault : CommandError) : Type 0 where
  pub error : DecodeError
  pub refuses : refusals.Refuses bytes error.slot error.kind
  pub told : fault ≡ fault_of_refusal error
