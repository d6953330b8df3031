-- What is told of an object that was found for code.
use Rattle.std.specs.Prelude.{◌≡◌, ◌⊎◌, ℕ, ◌∷◌, ◌++◌, [], List, Option, Some, None, true, false}
use Rattle.std.specs.Prelude.{codes, decimal}
use Rattle.std.specs.Prelude.{IsSome, string_bytes, take}
use Rattle.isa.specs.declared.hook.Hook.{Hook}
use Rattle.object.specs.Objects.{ObjectParts}
use Rattle.verifier.specs.Programs.{Program}
use Rattle.verifier.specs.declared.refusal.Refusal.{Refusal}
use Rattle.annotations.specs.Annotated.{IsAnnotation, IsRejection, with_found}
use Rattle.annotations.specs.CountedCode.{answer_without_turns}
use Rattle.annotations.specs.declared.fuel.Fuel.{Fuel}
use Rattle.hooktool_trials.specs.declared.requests.FuelAsked.{FuelAsked}
use Rattle.hooktool.specs.Cells.{cells_note}
use Rattle.hooktool.specs.declared.report.CommandReport.{CommandReport}

-- How many turns may be counted at the hook, and what is answered once they are used up.
abbrev pub fuel_for : Hook → FuelAsked → Fuel
fuel_for hook asked = record {
  turns = asked.turns;
  answer = answer_without_turns hook asked.answer;
}

-- how many turns are counted though nobody asked for that
abbrev pub counted_words : (found : Option ℕ) → List ℕ
counted_words None = 10 ∷ []
counted_words (Some turns) = codes ", turns counted, at most " ++ (decimal turns ++ 10 ∷ [])

-- the line that is printed, and what the program's author has to know
abbrev pub accepted_text : Program → (found : Option ℕ) → List ℕ
accepted_text program found = codes "accepted bound "
    ++ (decimal program.bound ++ (counted_words found ++ cells_note program))

-- An object was found of the file's code (with --fuel, or if that is told, of that code with its
-- turns counted) that the verifier accepts; its bytes were written, and its bound is told. Turns
-- that --fuel asked for aren't told as found.
pub record IsFound (are_written : (bytes : List ℕ) → Type 0) (hook : Hook) (fuel : FuelAsked)
    (file : List ℕ) (report : CommandReport) : Type 0 where
  pub object : ObjectParts
  pub bytes : List ℕ
  pub accepted : Program
  pub found : Option ℕ
  pub annotation : IsAnnotation hook (with_found (fuel_for hook fuel) found) file object bytes
      accepted
  pub written : are_written bytes
  pub told : string_bytes report.text ≡ accepted_text accepted found
  pub untold : IsSome fuel.turns → found ≡ None
  pub done : report.is_refused ≡ false

-- The verifier refuses the best object that was found of the file's code.
pub record IsRefusedFile (hook : Hook) (fuel : FuelAsked) (file : List ℕ) : Type 0 where
  pub object : ObjectParts
  pub bytes : List ℕ
  pub refusal : Refusal
  pub rejection : IsRejection hook (fuel_for hook fuel) file object bytes refusal

-- an ELF file begins so
abbrev pub elf_magic : List ℕ
elf_magic = 127 ∷ codes "ELF"

-- Or none was, since the verifier refuses it, or the file is an ELF file; and that is told.
abbrev pub IsAnnotated : (are_written : (bytes : List ℕ) → Type 0) → Hook → FuelAsked → List ℕ
    → CommandReport → Type 0
IsAnnotated are_written hook fuel file report = IsFound are_written hook fuel file report
    ⊎ ((report.is_refused ≡ true) × (IsRefusedFile hook fuel file ⊎ (take 4 file ≡ elf_magic)))
