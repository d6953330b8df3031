-- What is known before an instruction of a plain program, and what may be required where it leads.
use Rattle.std.specs.Prelude.{◌≡◌, ◌⊎◌, ℕ, ◌+◌, ◌≤◌, Bool, true, false, nat_le, if◌then◌else◌, List}
use Rattle.std.specs.Prelude.{Option, Some, length}
use Rattle.isa.specs.declared.instruction.Instruction.{Instruction}
use Rattle.isa.specs.Flow.{jump_target, register_written, slot_after}
use Rattle.machine.specs.Faults.{writes_frame}
use Rattle.object.specs.Sets.{has_byte}
use Rattle.kinds.specs.declared.state.Kind.{Kind}
use Rattle.kinds.specs.declared.state.Kind.TheVariants as kinds
use Rattle.kinds.specs.declared.state.AbstractState.{AbstractState}
use Rattle.kinds.specs.declared.statement.SegmentStart.{SegmentStart}
use Rattle.kinds.specs.Plain.{HoldsNumber, kind_in}
use Rattle.kinds.specs.Stated.{HasEveryNumber}
use Rattle.verifier.specs.Lines.{IsConstant}
use Rattle.transfer.specs.Plain.{IsPlainInstruction, ReadsFilled}
use Rattle.verifier.specs.Places.{falls_through, segment_start_at}

-- the instruction at the slot may lead there, by its jump or by falling through
abbrev pub LeadsTo : ℕ → Instruction → ℕ → Type 0
LeadsTo slot i to =
    (jump_target slot i ≡ Some to) ⊎ ((falls_through i ≡ true) × (slot_after slot i ≡ to))

-- after the instruction the register is known to hold a number: it was before, or is written
abbrev pub IsFilledBehind : {D : Type 0} → Instruction → AbstractState D → ℕ → Type 0
IsFilledBehind i state r = HoldsNumber state r ⊎ (register_written i ≡ Some r)

-- Nothing is required of a register, or that it is any number, and then it is filled.
abbrev pub AsksAtMost : {D : Type 0} → (D → ℕ → Type 0) → Type 0 → Kind D → Type 0
AsksAtMost contains filled kinds.Unknown = Unit {0}
AsksAtMost contains filled (kinds.Number value) =
    HasEveryNumber contains (kinds.Number value) × filled
AsksAtMost contains filled other = ⊥

-- An edge of a plain program: the target requires no more numbers than are filled, of any value,
-- and no bytes. Both ranks are constants, and the target's is at most the segment's, less on a
-- backward jump.
pub record IsPlainEdge {D : Type 0} (contains : D → ℕ → Type 0) (back : Bool)
    (segment target : SegmentStart D) (filled : ℕ → Type 0) : Type 0 where
  pub asks : (r : ℕ) → AsksAtMost contains (filled r) (kind_in target.kinds.items r)
  pub no_bytes : (at : ℕ) → has_byte target.statement.now.stack at ≡ false
  pub own : IsConstant segment.statement.now.rank
  pub constant : IsConstant target.statement.now.rank
  pub falls : target.statement.now.rank.constant + (if back then 1 else 0)
      ≤ segment.statement.now.rank.constant

-- if the slot has a statement, the edge to it is plain
abbrev pub IsPlainEdgeIfStated : {D : Type 0} → (D → ℕ → Type 0) → List (Option (SegmentStart D))
    → SegmentStart D → Bool → ℕ → (ℕ → Type 0) → Type 0
IsPlainEdgeIfStated {D} contains segment_starts segment back to filled =
    (target : SegmentStart D) → segment_start_at segment_starts to ≡ Some target
    → IsPlainEdge contains back segment target filled

-- An instruction of a plain program that doesn't write r10: what it reads is known to be numbers,
-- and each edge from it is plain.
pub record IsPlainHere {D : Type 0} (contains : D → ℕ → Type 0)
    (segment_starts : List (Option (SegmentStart D))) (segment : SegmentStart D)
    (slot : ℕ) (i : Instruction) (state : AbstractState D) : Type 0 where
  pub plain : IsPlainInstruction i
  pub frame : writes_frame i ≡ false
  pub reads : ReadsFilled i state
  pub ten : length state.kinds.items ≡ 10
  pub edges : (to : ℕ) → LeadsTo slot i to
      → IsPlainEdgeIfStated contains segment_starts segment (nat_le to slot) to
      (IsFilledBehind i state)

-- as many registers as before, and numbers remain numbers
pub record KeepsNumbers {D : Type 0} (state after : AbstractState D) : Type 0 where
  pub long : length after.kinds.items ≡ length state.kinds.items
  pub others : (r : ℕ) → HoldsNumber state r → HoldsNumber after r
