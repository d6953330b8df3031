-- Programs that are plain, and programs that aren't, for one reason each.
use Rattle.std.specs.Prelude.{ℕ, List, [], ◌∷◌, replicate, Some, None, pos, negsuc}
use Rattle.isa.specs.declared.code.Slot.{Slot}
use Rattle.isa.specs.declared.code.Slot.TheVariants.{Start}
use Rattle.isa.specs.declared.instruction.Instruction.{Instruction}
use Rattle.isa.specs.declared.instruction.Instruction.TheVariants as instructions
use Rattle.isa.specs.declared.instruction.Operation.TheVariants.{Move}
use Rattle.isa.specs.declared.instruction.Source.{Source}
use Rattle.isa.specs.declared.instruction.Source.TheVariants.{Immediate}
use Rattle.isa.specs.declared.instruction.Test.TheVariants.{Equal}
use Rattle.isa.specs.declared.instruction.Width.TheVariants.{Bits64}
use Rattle.object.specs.Sets.{no_bytes, with_range}
use Rattle.object.specs.Statements.{StatementParts}
use Rattle.object.specs.declared.kind.StatedKind.{StatedKind}
use Rattle.object.specs.declared.kind.StatedKind.TheVariants as kinds
use Rattle.object.specs.declared.rank.Rank.{Rank}
use Rattle.kinds.specs.Stated.{any_number}

-- ---- instructions

-- a move of 64 bits
abbrev pub move_of : ℕ → Source → Instruction
move_of target source = instructions.Arithmetic Bits64 Move target source

-- `r0 = 7`
abbrev pub seven : Instruction
seven = move_of 0 (Immediate (pos 7))

-- `if r0 == 0 goto +0`
abbrev pub test_on : Instruction
test_on = instructions.Branch Bits64 Equal 0 (Immediate (pos 0)) (pos 0)

-- ---- codes

-- the instruction, and EXIT
abbrev pub then_exit : Instruction → List Slot
then_exit i = Start i ∷ Start instructions.Exit ∷ []

-- `r0 = 7; if r0 == 0 goto L; L: exit`
abbrev pub tested_code : List Slot
tested_code = Start seven ∷ Start test_on ∷ Start instructions.Exit ∷ []

-- `L: goto L`
abbrev pub endless_code : List Slot
endless_code = Start (instructions.Jump (negsuc 0)) ∷ []

-- ---- statements

abbrev pub constant_rank : ℕ → Rank
constant_rank constant = record { constant = constant; first = None; second = None }

-- at the slot r0 is of the kind, nothing is said of the other registers and the stack, and the rank
-- is the constant
abbrev pub says : ℕ → StatedKind → ℕ → StatementParts
says slot kind constant = record {
  slot = slot;
  rank = constant_rank constant;
  kinds = kind ∷ replicate 9 kinds.Unstated;
  stack = no_bytes;
}

-- 7 alone
abbrev pub only_seven : StatedKind
only_seven = kinds.Number (record { low = 7; high = 7; mask = 0; value = 0 })

-- byte 0 of the stack is a byte of a number
abbrev pub says_byte : StatementParts
says_byte = record {
  slot = 1;
  rank = constant_rank 0;
  kinds = any_number ∷ replicate 9 kinds.Unstated;
  stack = with_range 0 1 no_bytes;
}

-- the rank is the number in r0
abbrev pub says_term : StatementParts
says_term = record {
  slot = 1;
  rank = record {
    constant = 0;
    first = Some (record { register = 0; coefficient = 1 });
    second = None;
  };
  kinds = any_number ∷ replicate 9 kinds.Unstated;
  stack = no_bytes;
}
