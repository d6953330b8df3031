-- What is told of texts of assembly and of object files.
use Rattle.std.specs.Prelude.{◌≡◌, ℕ, ◌⊎◌, List, [], ◌∷◌, ◌++◌, false, codes, decimal, string_bytes}
use Rattle.isa.specs.declared.decoding.DecodeError.{DecodeError}
use Rattle.isa.specs.Refusals as code
use Rattle.object.specs.declared.error.ObjectError.{ObjectError}
use Rattle.object.specs.Objects.{ObjectParts, slots_of}
use Rattle.object.specs.Spelling.{Spells}
use Rattle.object.specs.Refusals as objects
use Rattle.asm.specs.declared.error.AsmError.{AsmError}
use Rattle.asm.specs.Assembling.{TextSpells}
use Rattle.asm.specs.Assembling as texts
use Rattle.asm.specs.Listing as listings
use Rattle.commands.specs.declared.fault.CommandError.{CommandError}
use Rattle.commands.specs.declared.fault.CommandError.TheVariants as faults
use Rattle.commands.specs.declared.report.CommandOutput.{CommandOutput}
use Rattle.commands.specs.Statuses.{fault_of_object, fault_of_refusal, fault_of_text}

-- The text spells an object, and the number of its slots is told.
pub record IsAssembled (text : List ℕ) (report : CommandOutput) : Type 0 where
  pub object : ObjectParts
  pub spells : TextSpells text object
  pub told : string_bytes report.text ≡ codes "ok " ++ decimal (slots_of object) ++ 10 ∷ []
  pub done : report.is_refused ≡ false

-- the refusal of a text
pub record IsTextRefused (text : List ℕ) (fault : CommandError) : Type 0 where
  pub error : AsmError
  pub refuses : texts.Refuses text error.line error.kind
  pub told : fault ≡ fault_of_text error

abbrev pub IsTextFault : List ℕ → CommandError → Type 0
IsTextFault text fault = (fault ≡ faults.Memory) ⊎ IsTextRefused text fault

-- The bytes are an object file, and what is printed is its listing, which assembles to it again.
pub record IsListing (bytes : List ℕ) (report : CommandOutput) : Type 0 where
  pub object : ObjectParts
  pub spells : Spells bytes object
  pub listed : TextSpells (string_bytes report.text) object
  pub form : listings.IsListing (string_bytes report.text) object
  pub done : report.is_refused ≡ false

-- the refusal of bytes that are no object file
pub record IsObjectRefused (bytes : List ℕ) (fault : CommandError) : Type 0 where
  pub error : ObjectError
  pub refuses : objects.Refuses bytes error
  pub told : fault ≡ fault_of_object error

-- the refusal of an object file's code
pub record IsCodeRefused (bytes : List ℕ) (fault : CommandError) : Type 0 where
  pub object : ObjectParts
  pub spells : Spells bytes object
  pub error : DecodeError
  pub refuses : code.Refuses object.code error.slot error.kind
  pub told : fault ≡ fault_of_refusal error

-- Memory was refused, or the bytes hold no program.
abbrev pub IsObjectFault : List ℕ → CommandError → Type 0
IsObjectFault bytes fault = (fault ≡ faults.Memory) ⊎ IsObjectRefused bytes fault
    ⊎ IsCodeRefused bytes fault
