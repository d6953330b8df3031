-- The statuses that the program ends with, and the refusals that they stand for.
use Rattle.std.specs.Prelude.{ℕ}
use Rattle.clap.specs.Values.{kind_of}
use Rattle.clap.specs.declared.error.Error.{Error}
use Rattle.clap.specs.declared.error.ErrorKind.{ErrorKind}
use Rattle.clap.specs.declared.error.ErrorKind.TheVariants as kinds
use Rattle.isa.specs.declared.decoding.DecodeError.{DecodeError}
use Rattle.isa.specs.declared.decoding.DecodeFault.{DecodeFault}
use Rattle.isa.specs.declared.decoding.DecodeFault.TheVariants as decoding
use Rattle.isa.specs.Refusals.{fault_number}
use Rattle.object.specs.declared.error.ObjectError.{ObjectError}
use Rattle.object.specs.declared.error.ObjectError.TheVariants as reading
use Rattle.object.specs.Refusals.{error_number}
use Rattle.interp.specs.declared.error.RunError.{RunError}
use Rattle.interp.specs.declared.error.RunError.TheVariants as running
use Rattle.asm.specs.declared.error.AsmError.{AsmError}
use Rattle.asm.specs.declared.error.AsmFault.{AsmFault}
use Rattle.asm.specs.declared.error.AsmFault.TheVariants as texts
use Rattle.asm.specs.Faults as asm_faults
use Rattle.commands.specs.declared.fault.CommandError.{CommandError}
use Rattle.commands.specs.declared.fault.CommandError.TheVariants as faults

-- help and the version are what the user asked for
abbrev pub status_of_usage : ErrorKind → ℕ
status_of_usage kinds.DisplayHelp = 0
status_of_usage kinds.DisplayVersion = 0
status_of_usage other = 2

abbrev pub status_of : CommandError → ℕ
status_of (faults.Read path) = 3
status_of (faults.Write path) = 3
status_of (faults.Source number line) = 1
status_of (faults.Code number slot) = 1
status_of (faults.Object number) = 1
status_of (faults.Usage error) = status_of_usage (kind_of error)
status_of faults.Output = 3
status_of faults.Memory = 4

-- What is told of words that ask for nothing that can be done: clap's own text, or want of memory.
abbrev pub fault_of_kind_of_words : ErrorKind → Error → CommandError
fault_of_kind_of_words kinds.OutOfMemory error = faults.Memory
fault_of_kind_of_words other error = faults.Usage error

abbrev pub fault_of_words : Error → CommandError
fault_of_words error = fault_of_kind_of_words (kind_of error) error

-- What is told of bytes that are no code: the number and slot of the refusal, or want of memory.
abbrev pub fault_of_kind : DecodeFault → ℕ → CommandError
fault_of_kind decoding.Memory slot = faults.Memory
fault_of_kind kind slot = faults.Code (fault_number kind) slot

abbrev pub fault_of_refusal : DecodeError → CommandError
fault_of_refusal error = fault_of_kind error.kind error.slot

-- What is told of bytes that are no object file: the number of the refusal, or want of memory.
abbrev pub fault_of_object : ObjectError → CommandError
fault_of_object reading.Memory = faults.Memory
fault_of_object error = faults.Object (error_number error)

-- What is told of bytes that have no program to run.
abbrev pub fault_of_run : RunError → CommandError
fault_of_run (running.Object error) = fault_of_object error
fault_of_run (running.Code error) = fault_of_refusal error

-- What is told of a text that spells no object: the number and line of the refusal, or want of
-- memory.
abbrev pub fault_of_line : AsmFault → ℕ → CommandError
fault_of_line texts.Memory line = faults.Memory
fault_of_line kind line = faults.Source (asm_faults.fault_number kind) line

abbrev pub fault_of_text : AsmError → CommandError
fault_of_text error = fault_of_line error.kind error.line
