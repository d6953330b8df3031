-- The instructions of plain programs: which they are, and what is known after them.
use Rattle.std.specs.Prelude.{◌≡◌, ℕ, ◌<◌, length, slice_set, Some}
use Rattle.std.specs.List.{AllByRecursion}
use Rattle.isa.specs.declared.instruction.Instruction.{Instruction}
use Rattle.isa.specs.declared.instruction.Instruction.TheVariants as instructions
use Rattle.isa.specs.Flow.{registers_read, register_written}
use Rattle.kinds.specs.declared.state.Kind.{Kind}
use Rattle.kinds.specs.declared.state.AbstractState.{AbstractState}
use Rattle.kinds.specs.Plain.{IsNumber, HoldsNumber}

-- It always falls through: it is neither a jump nor EXIT.
abbrev pub IsStraight : Instruction → Type 0
IsStraight (instructions.Jump distance) = ⊥
IsStraight (instructions.LongJump distance) = ⊥
IsStraight (instructions.Branch width test left right distance) = ⊥
IsStraight instructions.Exit = ⊥
IsStraight other = Unit {0}

-- It uses only numbers in registers: arithmetic, or loading a wide number.
abbrev pub IsPlainStep : Instruction → Type 0
IsPlainStep (instructions.Arithmetic width operation target source) = Unit {0}
IsPlainStep (instructions.Negate width target) = Unit {0}
IsPlainStep (instructions.SignExtend extension target source) = Unit {0}
IsPlainStep (instructions.Reorder order width target) = Unit {0}
IsPlainStep (instructions.LoadNumber target number) = Unit {0}
IsPlainStep other = ⊥

-- An instruction of plain programs: one of those, a jump or EXIT. It accesses no memory and calls
-- no helper.
abbrev pub IsPlainInstruction : Instruction → Type 0
IsPlainInstruction (instructions.Jump distance) = Unit {0}
IsPlainInstruction (instructions.LongJump distance) = Unit {0}
IsPlainInstruction (instructions.Branch width test left right distance) = Unit {0}
IsPlainInstruction instructions.Exit = Unit {0}
IsPlainInstruction other = IsPlainStep other

-- ---- what is known

-- each register that it reads is known to hold a number
abbrev pub ReadsFilled : {D : Type 0} → Instruction → AbstractState D → Type 0
ReadsFilled instruction state = AllByRecursion (HoldsNumber state) (registers_read instruction)

-- What the instruction writes is a number, and numbers remain numbers.
pub record KeepsFilled {D : Type 0} (instruction : Instruction)
    (state after : AbstractState D) : Type 0 where
  pub ten : length after.kinds.items ≡ 10
  pub written : (r : ℕ) → register_written instruction ≡ Some r → HoldsNumber after r
  pub others : (r : ℕ) → HoldsNumber state r → HoldsNumber after r

-- the register, which isn't r10, is known to hold a number, and the same is known of the others
pub record FillsNumber {D : Type 0} (state : AbstractState D) (target : ℕ)
    (after : AbstractState D) : Type 0 where
  pub kind : Kind D
  pub number : IsNumber kind
  pub low : target < 10
  pub items : after.kinds.items ≡ slice_set state.kinds.items target kind
