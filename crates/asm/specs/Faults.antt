-- The errors: their numbers and their lines.
use Rattle.std.specs.Prelude.{◌≡◌, ℕ}
use Rattle.isa.specs.declared.decoding.DecodeFault.{DecodeFault}
use Rattle.isa.specs.declared.decoding.DecodeFault.TheVariants as decode_faults
use Rattle.asm.specs.declared.error.AsmError.{AsmError}
use Rattle.asm.specs.declared.error.AsmFault.{AsmFault}
use Rattle.asm.specs.declared.error.AsmFault.TheVariants as faults
use Rattle.asm.specs.declared.error.ListError.{ListError}
use Rattle.asm.specs.declared.error.ListError.TheVariants as list_errors

abbrev pub fault_number : AsmFault → ℕ
fault_number faults.Syntax = 1
fault_number faults.Label = 2
fault_number faults.Range = 3
fault_number faults.Twice = 4
fault_number faults.Memory = 5

abbrev pub list_number : ListError → ℕ
list_number list_errors.Code = 1
list_number list_errors.Memory = 2

-- A refused allocation is no line's fault, and is reported at line 0.
abbrev pub error_at : ℕ → AsmFault → AsmError
error_at line faults.Memory = record { line = 0; kind = faults.Memory }
error_at line fault = record { line = line; kind = fault }

abbrev pub IsWantOfMemory : AsmError → Type 0
IsWantOfMemory error = (error.kind ≡ faults.Memory) × (error.line ≡ 0)

-- `Memory` is reported as itself, any other fault in an object's code as `Code`.
abbrev pub as_list_error : DecodeFault → ListError
as_list_error decode_faults.Memory = list_errors.Memory
as_list_error fault = list_errors.Code
