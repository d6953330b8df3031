-- The statuses that the program ends with, and the refusals that they stand for.
use Rattle.std.specs.Prelude.{ℕ}
use Rattle.clap.specs.declared.error.ErrorKind.{ErrorKind}
use Rattle.clap.specs.declared.error.ErrorKind.TheVariants as kinds
use Rattle.isa.specs.declared.decoding.DecodeError.{DecodeError}
use Rattle.isa.specs.declared.decoding.DecodeFault.{DecodeFault}
use Rattle.isa.specs.declared.decoding.DecodeFault.TheVariants as decoding
use Rattle.isa.specs.Refusals.{fault_number}
use Rattle.object.specs.declared.error.ObjectError.{ObjectError}
use Rattle.object.specs.declared.error.ObjectError.TheVariants as reading
use Rattle.object.specs.Refusals.{error_number}
use Rattle.hooktool.specs.declared.fault.HooktoolFault.{HooktoolFault}
use Rattle.hooktool.specs.declared.fault.HooktoolFault.TheVariants as faults

-- help and the version are what the user asked for
abbrev pub status_of_usage : ErrorKind → ℕ
status_of_usage kinds.DisplayHelp = 0
status_of_usage kinds.DisplayVersion = 0
status_of_usage other = 2

-- of words that ask for nothing that can be done: of clap's text, or of want of memory
abbrev pub status_of_words : ErrorKind → ℕ
status_of_words kinds.OutOfMemory = 4
status_of_words other = status_of_usage other

abbrev pub status_of : HooktoolFault → ℕ
status_of (faults.Read path) = 3
status_of (faults.Write path) = 3
status_of (faults.Code number slot) = 1
status_of (faults.Object number) = 1
status_of (faults.OtherHook hook) = 1
status_of (faults.Uncounted reason) = 1
status_of faults.Memory = 4

-- What is told of bytes that are no code: the number and slot of the refusal, or want of memory.
abbrev pub fault_of_kind : DecodeFault → ℕ → HooktoolFault
fault_of_kind decoding.Memory slot = faults.Memory
fault_of_kind kind slot = faults.Code (fault_number kind) slot

abbrev pub fault_of_refusal : DecodeError → HooktoolFault
fault_of_refusal error = fault_of_kind error.kind error.slot

-- What is told of bytes that are no object file: the number of the refusal, or want of memory.
abbrev pub fault_of_object : ObjectError → HooktoolFault
fault_of_object reading.Memory = faults.Memory
fault_of_object error = faults.Object (error_number error)
