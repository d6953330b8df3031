-- Where the instruction at a slot may lead, by the code and the statements.
use Rattle.std.specs.Prelude.{◌≡◌, ℕ, ◌+◌, Bool, true, false, List, Option, None, Some, IsSome}
use Rattle.std.specs.Prelude.{IfSome, slice_index_or, unwrap_or}
use Rattle.isa.specs.declared.code.Slot.{Slot}
use Rattle.isa.specs.declared.instruction.Instruction.{Instruction}
use Rattle.isa.specs.declared.instruction.Instruction.TheVariants as instructions
use Rattle.isa.specs.Flow.{Begins, size, jump_target}
use Rattle.kinds.specs.declared.statement.SegmentStart.{SegmentStart}

-- whether the instruction may fall through: all but EXIT and the unconditional jumps
abbrev pub falls_through : Instruction → Bool
falls_through (instructions.Jump distance) = false
falls_through (instructions.LongJump distance) = false
falls_through instructions.Exit = false
falls_through other = true

-- the start of the segment at a slot, if something is stated there; the list has an element for
-- each slot of the code
abbrev pub segment_start_at : {D : Type 0} → List (Option (SegmentStart D)) → ℕ
    → Option (SegmentStart D)
segment_start_at segment_starts slot = slice_index_or segment_starts slot None

-- the start of a segment: the entry, or the statement at a slot (where none is, the entry too)
abbrev pub segment_of : {D : Type 0} → List (Option (SegmentStart D)) → SegmentStart D → Option ℕ
    → SegmentStart D
segment_of segment_starts entry None = entry
segment_of segment_starts entry (Some slot) = unwrap_or (segment_start_at segment_starts slot) entry

-- an instruction with a statement begins at the slot
pub record IsEntry {D : Type 0} (code : List Slot) (segment_starts : List (Option (SegmentStart D)))
    (slot : ℕ) : Type 0 where
  pub begins : Begins code slot
  pub stated : IsSome (segment_start_at segment_starts slot)

-- The slots that may come after the instruction are valid: a jump's target has a statement, and an
-- instruction that falls through is followed by another.
pub record IsWellPlaced {D : Type 0} (code : List Slot)
    (segment_starts : List (Option (SegmentStart D)))
    (slot : ℕ) (i : Instruction) : Type 0 where
  pub jump : IfSome (jump_target slot i) (IsEntry code segment_starts)
  pub on : falls_through i ≡ true → Begins code (slot + size i)
