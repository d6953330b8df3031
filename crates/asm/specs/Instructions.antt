-- The instruction of a line, and which error there is if it has none.
use Rattle.std.specs.Prelude.{List, ◌++◌, length, ℕ, ◌+◌, ◌-◌, ◌^◌, ℤ, Option, Some, None, Result}
use Rattle.std.specs.Prelude.{Ok, Err, if◌then◌else◌, nat_lt}
use Rattle.isa.specs.declared.code.Slot.{Slot}
use Rattle.isa.specs.Code.{slots_of}
use Rattle.isa.specs.declared.instruction.Instruction.{Instruction}
use Rattle.isa.specs.declared.instruction.Instruction.TheVariants as instructions
use Rattle.isa.specs.declared.instruction.Source.{Source}
use Rattle.isa.specs.declared.instruction.Source.TheVariants as sources
use Rattle.asm.specs.declared.numeral.Numeral.{Numeral}
use Rattle.asm.specs.declared.numeral.Numeral.TheVariants as numerals
use Rattle.asm.specs.declared.line.AssemblyLine.{AssemblyLine}
use Rattle.asm.specs.declared.line.AssemblyLine.TheVariants as lines
use Rattle.asm.specs.declared.line.Operand.{Operand}
use Rattle.asm.specs.declared.line.Operand.TheVariants as operands
use Rattle.asm.specs.declared.line.LabelOrNumber.{LabelOrNumber}
use Rattle.asm.specs.declared.line.LabelOrNumber.TheVariants as targets
use Rattle.asm.specs.declared.error.AsmFault.{AsmFault}
use Rattle.asm.specs.declared.error.AsmFault.TheVariants as faults
use Rattle.asm.specs.Numbers.{signed_in, natural_in}

-- apply f to the value, or pass the fault on
infixl 10 ◌>>=◌
abbrev pub ◌>>=◌ : {A B : Type 0} → Result A AsmFault → (A → Result B AsmFault) → Result B AsmFault
(Ok x) >>= f = f x
(Err fault) >>= f = Err fault

-- a number that fits its field, or `Range`
abbrev pub or_range_fault : {A : Type 0} → Option A → Result A AsmFault
or_range_fault (Some x) = Ok x
or_range_fault None = Err faults.Range

abbrev pub immediate_of : Option ℤ → Option Source
immediate_of (Some n) = Some (sources.Immediate n)
immediate_of None = None

abbrev pub source_of : Operand → Option Source
source_of (operands.Register register) = Some (sources.Register register)
source_of (operands.Number n) = immediate_of (signed_in (2 ^ 31) n)

-- from the slot after the jump to the label's
abbrev pub distance_to : ℕ → ℕ → Numeral
distance_to slot place = if nat_lt slot place then numerals.Natural (place - slot - 1)
    else (if nat_lt (slot - place) (2 ^ 32) then numerals.Negative (slot - place)
    else numerals.Huge)

abbrev pub label_distance : ℕ → Option ℕ → Result Numeral AsmFault
label_distance slot (Some place) = Ok (distance_to slot place)
label_distance slot None = Err faults.Label

-- of a jump at this slot, whose label names the place
abbrev pub distance_of : LabelOrNumber → ℕ → Option ℕ → Result Numeral AsmFault
distance_of (targets.Number n) slot place = Ok n
distance_of targets.Label slot place = label_distance slot place

-- A missing label is reported before a number that is out of range. A line without an instruction
-- is `Syntax`.
abbrev pub instruction_of : AssemblyLine → ℕ → Option ℕ → Result Instruction AsmFault
instruction_of (lines.Arithmetic width operation target source) slot place =
    or_range_fault (source_of source) >>= λ s. Ok (instructions.Arithmetic width operation target s)
instruction_of (lines.Negate width target) slot place = Ok (instructions.Negate width target)
instruction_of (lines.SignExtend extension target source) slot place =
    Ok (instructions.SignExtend extension target source)
instruction_of (lines.Reorder order width target) slot place =
    Ok (instructions.Reorder order width target)
instruction_of (lines.Jump target) slot place = distance_of target slot place >>= λ d.
    or_range_fault (signed_in (2 ^ 15) d) >>= λ distance. Ok (instructions.Jump distance)
instruction_of (lines.LongJump target) slot place = distance_of target slot place >>= λ d.
    or_range_fault (signed_in (2 ^ 31) d) >>= λ distance. Ok (instructions.LongJump distance)
instruction_of (lines.Branch width test left right target) slot place =
    distance_of target slot place >>= λ d. or_range_fault (signed_in (2 ^ 15) d) >>= λ distance.
    or_range_fault (source_of right) >>= λ s.
    Ok (instructions.Branch width test left s distance)
instruction_of (lines.Call helper) slot place = or_range_fault (signed_in (2 ^ 31) helper) >>= λ n.
    Ok (instructions.Call n)
instruction_of lines.Exit slot place = Ok instructions.Exit
instruction_of (lines.Load size target base offset) slot place =
    or_range_fault (signed_in (2 ^ 15) offset) >>= λ n. Ok (instructions.Load size target base n)
instruction_of (lines.Store size base offset source) slot place =
    or_range_fault (signed_in (2 ^ 15) offset) >>= λ n. or_range_fault (source_of source) >>= λ s.
    Ok (instructions.Store size base n s)
instruction_of (lines.LoadNumber target number) slot place =
    or_range_fault (natural_in (2 ^ 64) number) >>= λ n. Ok (instructions.LoadNumber target n)
instruction_of (lines.LoadMap target map offset) slot place =
    or_range_fault (signed_in (2 ^ 31) map) >>= λ m. or_range_fault (signed_in (2 ^ 31) offset) >>=
    λ n.
    Ok (instructions.LoadMap target m n)
instruction_of other slot place = Err faults.Syntax

-- the slots that a line's instruction takes
abbrev pub slots_taken : AssemblyLine → ℕ
slots_taken (lines.LoadNumber target number) = 2
slots_taken (lines.LoadMap target map offset) = 2
slots_taken (lines.Arithmetic width operation target source) = 1
slots_taken (lines.Negate width target) = 1
slots_taken (lines.SignExtend extension target source) = 1
slots_taken (lines.Reorder order width target) = 1
slots_taken (lines.Jump target) = 1
slots_taken (lines.LongJump target) = 1
slots_taken (lines.Branch width test left right target) = 1
slots_taken (lines.Call helper) = 1
slots_taken lines.Exit = 1
slots_taken (lines.Load size target base offset) = 1
slots_taken (lines.Store size base offset source) = 1
slots_taken other = 0

-- the code with an instruction appended, if there is room for its slots
abbrev pub with_instruction : List Slot → Instruction → Result (List Slot) AsmFault
with_instruction code i = if nat_lt 4096 (length code + length (slots_of i)) then Err faults.Range
    else Ok (code ++ slots_of i)

-- the code with the instruction of a line appended
abbrev pub code_step : List Slot → AssemblyLine → Option ℕ → Result (List Slot) AsmFault
code_step code line place = instruction_of line (length code) place >>= with_instruction code
