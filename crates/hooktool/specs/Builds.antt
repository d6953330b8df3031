-- What is told of an ELF file whose functions were built: some lines for each, in the order of the
-- file.
use Rattle.std.specs.Prelude.{◌≡◌, ◌⊎◌, ◌==◌, ◌&&◌, ◌||◌, ◌<◌, ℕ, zero, suc, List, [], ◌++◌, Option}
use Rattle.std.specs.Prelude.{Some, None, Bool, true, false, not, codes}
use Rattle.std.specs.Prelude.{IfSome, IsSome, length, slice_get, string_bytes, take}
use Rattle.std.specs.Char.{is_ascii_alphanumeric}
use Rattle.std.specs.List.{list_all}
use Rattle.isa.specs.declared.hook.Hook.{Hook}
use Rattle.isa.specs.Hooks.{hook_name}
use Rattle.object.specs.Objects.{ObjectParts}
use Rattle.verifier.specs.Programs.{Program}
use Rattle.verifier.specs.Verdicts.{accepted_line}
use Rattle.annotations.specs.Annotated.{IsAnnotation, with_found}
use Rattle.elf.specs.declared.lists.LinkedSymbol.{LinkedSymbol}
use Rattle.elf.specs.Entries.{is_code}
use Rattle.elf.specs.Files.{IsObjectFile, contents_of, section_at, section_count, section_name}
use Rattle.elf.specs.Lists.{HasBytes, HasSymbol, functions_of, relocations_of, symbol_bytes}
use Rattle.elf.specs.Lists.{symbol_name}
use Rattle.hooktool.specs.Annotations.{accepted_text, elf_magic, fuel_for}
use Rattle.hooktool.specs.Explanations.{IsExplained}
use Rattle.hooktool_trials.specs.declared.requests.FuelAsked.{FuelAsked}
use Rattle.hooktool_trials.specs.Stops.{KnownFiles}
use Rattle.hooktool.specs.declared.report.CommandReport.{CommandReport}

-- what was asked for: the folder for objects (without one each is explained), the hook of functions
-- in .text, the turns of loops; and which bytes a file was made
pub record Wanted : Type 1 where
  pub folder : Option (List ℕ)
  pub hook : Option Hook
  pub fuel : FuelAsked
  pub written : (path bytes : List ℕ) → Type 0

-- the file of a function's object in a folder
abbrev pub object_path : (folder function : List ℕ) → List ℕ
object_path folder function = folder ++ (codes "/" ++ (function ++ codes ".o"))

-- The object's bytes were written there, if objects are asked for.
abbrev pub IsPlaced : Wanted → (function bytes : List ℕ) → Type 0
IsPlaced wanted function bytes = IfSome wanted.folder
    (λ folder. wanted.written (object_path folder function) bytes)

-- a function's name that is its object's file name, too: letters, digits, '_' and '.', so that no
-- name leads into another folder
abbrev pub may_stand : ℕ → Bool
may_stand byte = is_ascii_alphanumeric byte || (byte == 95) || (byte == 46)

abbrev pub is_file_name : List ℕ → Bool
is_file_name name = list_all may_stand name

-- FOLDER/FUNCTION.o: HOOK, accepted bound N, and what the program's author has to know
abbrev pub built_text : (folder function hook : List ℕ) → Program → (found : Option ℕ) → List ℕ
built_text folder function hook program found = folder ++ (codes "/" ++ (function ++ (codes ".o: "
    ++ (hook ++ (codes ", " ++ accepted_text program found)))))

-- The bound of the object that was written is told; or it is explained, with its verdict at the
-- end.
abbrev pub TellsFunction : Option (List ℕ) → (function hook : List ℕ) → Program
    → (found : Option ℕ) → List ℕ → Type 0
TellsFunction (Some folder) function hook program found text =
    text ≡ built_text folder function hook program found
TellsFunction None function hook program found text = (before : List ℕ)
    × (text ≡ before ++ accepted_line program.bound)

-- A section is for the hook that it is named by, and .text for the one that was asked for.
abbrev pub IsHookOf : Option Hook → List ℕ → Hook → Type 0
IsHookOf asked section hook = (section ≡ hook_name hook)
    ⊎ ((section ≡ codes ".text") × (asked ≡ Some hook))

-- it is for none
abbrev pub IsForNoHook : (asked : Option Hook) → (section : List ℕ) → Type 0
IsForNoHook asked section = (hook : Hook) → IsHookOf asked section hook → ⊥

-- An object was found of the function's code (with --fuel, or if that is told, of that code with
-- its turns counted) that the verifier accepts; its bytes were written, if objects are asked for,
-- and the text tells its bound.
pub record IsBuiltFunction (file : List ℕ) (wanted : Wanted) (hook : Hook) (function : LinkedSymbol)
    (line : List ℕ) : Type 0 where
  pub named : HasSymbol file function.table function.index
  pub plain : is_file_name (symbol_name file function.table function.index) ≡ true
  pub has_code : HasBytes file function.symbol
  pub object : ObjectParts
  pub bytes : List ℕ
  pub accepted : Program
  pub found : Option ℕ
  pub annotation : IsAnnotation hook (with_found (fuel_for hook wanted.fuel) found)
      (symbol_bytes file function.symbol) object bytes accepted
  pub untold : IsSome wanted.fuel.turns → found ≡ None
  pub written : IsPlaced wanted (symbol_name file function.table function.index) bytes
  pub told : TellsFunction wanted.folder (symbol_name file function.table function.index)
      (hook_name hook) accepted found line

-- The lines are those of the first n functions.
abbrev pub AreBuiltFunctions : List ℕ → Wanted → Hook → List LinkedSymbol → ℕ → List ℕ → Type 0
AreBuiltFunctions file wanted hook functions zero lines = lines ≡ []
AreBuiltFunctions file wanted hook functions (suc n) lines = (before line : List ℕ)
    × (function : LinkedSymbol) × AreBuiltFunctions file wanted hook functions n before
    × (slice_get functions n ≡ Some function) × IsBuiltFunction file wanted hook function line
    × (lines ≡ before ++ line)

-- Each function of section i was built. No linker would change the section.
pub record IsBuiltSection (file : List ℕ) (wanted : Wanted) (i : ℕ) (lines : List ℕ) : Type 0 where
  pub hook : Hook
  pub hook_is : IsHookOf wanted.hook (section_name file i) hook
  pub relocations : relocations_of file i ≡ []
  pub functions : AreBuiltFunctions file wanted hook (functions_of file i)
      (length (functions_of file i)) lines

-- a section with instructions
abbrev pub is_program_section : List ℕ → ℕ → Bool
is_program_section file i = is_code (section_at file i) && not (length (contents_of file i) == 0)

-- some section has instructions; or none has
abbrev pub HasProgram : List ℕ → Type 0
HasProgram file = (i : ℕ) × (i < section_count file) × (is_program_section file i ≡ true)

abbrev pub HasNoProgram : List ℕ → Type 0
HasNoProgram file = (i : ℕ) → i < section_count file → is_program_section file i ≡ false

-- What is told of section i: of one without instructions nothing.
abbrev pub IsBuiltAt : List ℕ → Wanted → ℕ → List ℕ → Type 0
IsBuiltAt file wanted i lines =
    (is_program_section file i ≡ true → IsBuiltSection file wanted i lines)
    × (is_program_section file i ≡ false → lines ≡ [])

-- The lines are those of the first n sections.
abbrev pub AreBuiltSections : List ℕ → Wanted → ℕ → List ℕ → Type 0
AreBuiltSections file wanted zero lines = lines ≡ []
AreBuiltSections file wanted (suc i) lines = (before more : List ℕ)
    × AreBuiltSections file wanted i before × IsBuiltAt file wanted i more
    × (lines ≡ before ++ more)

-- Each function of each section with instructions was built, of which there is one, and nothing
-- else is told. Or something
-- is told that wasn't.
abbrev pub IsBuilt : List ℕ → Wanted → CommandReport → Type 0
IsBuilt file wanted report = (report.is_refused ≡ true)
    ⊎ (IsObjectFile file × HasProgram file × AreBuiltSections file wanted (section_count file)
    (string_bytes report.text))

-- Each function is explained, none of .text.
abbrev pub explanations_wanted : KnownFiles → Wanted
explanations_wanted known = record {
  folder = None;
  hook = None;
  fuel = record { turns = None; answer = None };
  written = known.written;
}

-- An object file is explained; or the bytes begin as an ELF file, and each of its functions is.
abbrev pub IsExplainedFile : KnownFiles → List ℕ → CommandReport → Type 0
IsExplainedFile known bytes report = IsExplained bytes report
    ⊎ ((take 4 bytes ≡ elf_magic) × IsBuilt bytes (explanations_wanted known) report)
