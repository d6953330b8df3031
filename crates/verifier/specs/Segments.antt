-- Segments: each starts in any state that is as the entry or a statement says, whether or not a run
-- reaches it, and goes up to the next statement.
use Rattle.std.specs.Prelude.{◌≡◌, ℕ, ◌+◌, ◌≤◌, ◌⊎◌, Bool, true, nat_le, if◌then◌else◌, List}
use Rattle.std.specs.Prelude.{Option, Some, None, IsSomeAnd}
use Rattle.isa.specs.declared.code.Slot.{Slot}
use Rattle.isa.specs.declared.hook.Hook.{Hook}
use Rattle.isa.specs.declared.instruction.Instruction.{Instruction}
use Rattle.machine.specs.declared.fault.Fault.{Fault}
use Rattle.machine.specs.declared.state.State.{State as Machine}
use Rattle.machine.specs.Label.{Label}
use Rattle.machine.specs.State.{Setting}
use Rattle.machine.specs.Steps.{IsAt, Does}
use Rattle.machine.specs.Faults.{Stuck}
use Rattle.kinds.specs.declared.state.AbstractState.{AbstractState}
use Rattle.kinds.specs.declared.statement.SegmentStart.{SegmentStart}
use Rattle.kinds.specs.Meaning.{StateHolds, SegmentStartHolds}
use Rattle.transfer.specs.Given.{Given, setting_of}
use Rattle.isa.specs.Flow.{Begins, size}
use Rattle.verifier.specs.Lines.{rank_value}
use Rattle.verifier.specs.declared.known.Known.{Known}
use Rattle.verifier.specs.Places.{segment_start_at}

-- ---- the machine's side, without abstract states

-- A segment that starts in one state of the machine visits another. It starts at the entry, if slot
-- 0 has no statement, or at a statement, and goes from an instruction to the one after it, as long
-- as that has no statement.
pub data Visits {D : Type 0} (contains : D → ℕ → Type 0) (setting : Setting)
    (segment_starts : List (Option (SegmentStart D))) (entry : SegmentStart D) : SegmentStart D
    → Machine → Machine → Type 0 where
  at_entry : {start : Machine} → start.slot ≡ 0 → segment_start_at segment_starts start.slot ≡ None
      → SegmentStartHolds contains entry start
      → Visits contains setting segment_starts entry entry start start
  at_statement : {segment : SegmentStart D} {start : Machine}
      → segment_start_at segment_starts start.slot ≡ Some segment
      → SegmentStartHolds contains segment start
      → Visits contains setting segment_starts entry segment start start
  falls : {segment : SegmentStart D} {start next : Machine} (now : Machine) (label : Label)
      (i : Instruction)
      → Visits contains setting segment_starts entry segment start now
      → IsAt setting now i → Does i setting now label next → next.slot ≡ now.slot + size i
      → segment_start_at segment_starts next.slot ≡ None
      → Visits contains setting segment_starts entry segment start next

-- The machine is as the target's statement says, and the rank there is at most the one at the start
-- of the segment, less on a backward jump.
pub record Enters {D : Type 0} (contains : D → ℕ → Type 0) (back : Bool)
    (segment target : SegmentStart D)
    (start next : Machine) : Type 0 where
  pub holds : SegmentStartHolds contains target next
  pub rank : rank_value target.statement.now.rank next + (if back then 1 else 0)
      ≤ rank_value segment.statement.now.rank start

-- a step from the slot leads to a statement and enters it; a step to the slot itself or an earlier
-- one is a backward jump
abbrev pub EntersNext : {D : Type 0} → (D → ℕ → Type 0) → List (Option (SegmentStart D))
    → SegmentStart D → ℕ → Machine → Machine → Type 0
EntersNext contains segment_starts segment slot start next =
    IsSomeAnd (segment_start_at segment_starts next.slot)
    (λ target. Enters contains (nat_le next.slot slot) segment target start next)

-- where a step of the segment leads: to an instruction whose statement it enters, or to the next
-- one, which has none
pub record LeadsOn {D : Type 0} (contains : D → ℕ → Type 0) (code : List Slot)
    (segment_starts : List (Option (SegmentStart D))) (segment : SegmentStart D) (slot : ℕ)
    (i : Instruction)
    (start next : Machine) : Type 0 where
  pub begins : Begins code next.slot
  pub leads : EntersNext contains segment_starts segment slot start next
      ⊎ ((next.slot ≡ slot + size i) × (segment_start_at segment_starts next.slot ≡ None))

-- No visit of the slot is stuck, and each step from it leads on, on any input.
pub record IsFine {D : Type 0} (contains : D → ℕ → Type 0) (code : List Slot) (hook : Hook)
    (segment_starts : List (Option (SegmentStart D))) (entry : SegmentStart D) (slot : ℕ) : Type 0
  where
    pub free : (input : Given) (segment : SegmentStart D) (start now : Machine) (fault : Fault)
        → Visits contains (setting_of code hook input) segment_starts entry segment start now
        → now.slot ≡ slot → Stuck (setting_of code hook input) now fault → ⊥
    pub leads_on : (input : Given) (segment : SegmentStart D) (start now next : Machine)
        (label : Label) (i : Instruction)
        → Visits contains (setting_of code hook input) segment_starts entry segment start now
        → now.slot ≡ slot → IsAt (setting_of code hook input) now i
        → Does i (setting_of code hook input) now label next
        → LeadsOn contains code segment_starts segment slot i start next

-- ---- what the verifier knows

-- a state of the machine in the segment, by all that is known
pub record IsKnown {D : Type 0} (contains : D → ℕ → Type 0) (segment : SegmentStart D)
    (state : AbstractState D)
    (start now : Machine) : Type 0 where
  pub begins : SegmentStartHolds contains segment start
  pub holds : StateHolds contains state start now

-- the slot may be reached, and the machine there is as is known
pub record Knows {D : Type 0} (contains : D → ℕ → Type 0) (segment : SegmentStart D)
    (known : Known D)
    (start now : Machine) : Type 0 where
  pub live : known.is_live ≡ true
  pub is_known : IsKnown contains segment known.state start now

-- a step leads to the next slot, which has no statement, and what holds there is known
pub record FallsThrough {D : Type 0} (contains : D → ℕ → Type 0)
    (segment_starts : List (Option (SegmentStart D))) (segment : SegmentStart D) (slot : ℕ)
    (i : Instruction)
    (after : Known D) (start next : Machine) : Type 0 where
  pub behind : next.slot ≡ slot + size i
  pub unstated : segment_start_at segment_starts next.slot ≡ None
  pub knows : Knows contains segment after start next

-- a step to the next slot enters the statement there, or there is none and what holds there is
-- known
abbrev pub PassesTo : {D : Type 0} → (D → ℕ → Type 0) → List (Option (SegmentStart D))
    → SegmentStart D → ℕ → ℕ → Known D → Machine → Machine → Type 0
PassesTo contains segment_starts segment slot next_slot after start next =
    EntersNext contains segment_starts segment slot start next
    ⊎ ((segment_start_at segment_starts next_slot ≡ None) × Knows contains segment after start next)

-- where a step from what is known leads
pub record StepLeads {D : Type 0} (contains : D → ℕ → Type 0) (code : List Slot)
    (segment_starts : List (Option (SegmentStart D))) (segment : SegmentStart D) (slot : ℕ)
    (i : Instruction)
    (after : Known D) (start next : Machine) : Type 0 where
  pub begins : Begins code next.slot
  pub goes : EntersNext contains segment_starts segment slot start next
      ⊎ FallsThrough contains segment_starts segment slot i after start next

-- In each state that is known at the slot, the instruction isn't stuck, and each step goes on as it
-- should.
pub record IsFollowed {D : Type 0} (contains : D → ℕ → Type 0) (code : List Slot) (hook : Hook)
    (segment_starts : List (Option (SegmentStart D))) (segment : SegmentStart D) (slot : ℕ)
    (i : Instruction)
    (state : AbstractState D) (after : Known D) : Type 0 where
  pub free : (input : Given) (start now : Machine) (fault : Fault) → now.slot ≡ slot
      → StateHolds contains state start now
      → Stuck (setting_of code hook input) now fault → ⊥
  pub goes_on : (input : Given) (start now next : Machine) (label : Label) → now.slot ≡ slot
      → IsKnown contains segment state start now
      → Does i (setting_of code hook input) now label next
      → StepLeads contains code segment_starts segment slot i after start next

-- Every visit of the slot, on any input, is in this segment and known.
pub record IsCurrent {D : Type 0} (contains : D → ℕ → Type 0) (code : List Slot) (hook : Hook)
    (segment_starts : List (Option (SegmentStart D))) (entry : SegmentStart D) (slot : ℕ)
    (segment : SegmentStart D)
    (known : Known D) : Type 0 where
  pub visits : (input : Given) (other : SegmentStart D) (start now : Machine)
      → Visits contains (setting_of code hook input) segment_starts entry other start now
      → now.slot ≡ slot → (segment ≡ other) × Knows contains segment known start now

-- the same, unless the slot has a statement
abbrev pub IsCurrentUnlessStated : {D : Type 0} → (D → ℕ → Type 0) → List Slot → Hook
    → List (Option (SegmentStart D)) → SegmentStart D → ℕ → SegmentStart D → Known D → Type 0
IsCurrentUnlessStated contains code hook segment_starts entry slot segment known =
    segment_start_at segment_starts slot ≡ None
    → IsCurrent contains code hook segment_starts entry slot segment known
