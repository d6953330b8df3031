-- An instruction and the slot that holds it.
use Rattle.std.specs.Prelude.{◌≡◌, ℕ, List, [], Option, Some, None}
use Rattle.isa.specs.declared.fields.Fields.{Fields}
use Rattle.isa.specs.declared.instruction.Instruction.{Instruction}
use Rattle.isa.specs.Spelling.{fields, fields_of, bytes_of_fields, IsInstruction}

-- the first slot of the instruction has these fields
pub record IsHeldBy (fields : Fields) (i : Instruction) : Type 0 where
  pub fields_are : fields_of i ≡ fields
  pub ranges : IsInstruction i

-- the second slot with this number, if there is one
abbrev pub bytes_of_half : Option ℕ → List ℕ
bytes_of_half None = []
bytes_of_half (Some number) = bytes_of_fields (fields 0 0 0 0 number)
