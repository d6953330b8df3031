-- What an order wants, and what is told of the code of one function.
use Rattle.std.specs.Prelude.{◌≡◌, ◌⊎◌, ◌++◌, ◌||◌, ℕ, List, Option, Some, None, Result, Ok, Err}
use Rattle.std.specs.Prelude.{true, IsSome, string_bytes}
use Rattle.isa.specs.declared.hook.Hook.{Hook}
use Rattle.isa.specs.Hooks.{hook_name}
use Rattle.object.specs.Objects.{ObjectParts}
use Rattle.verifier.specs.Programs.{Program}
use Rattle.annotations.specs.Annotated.{IsAnnotation, with_found}
use Rattle.hooktool_trials.specs.Stops.{KnownFiles}
use Rattle.hooktool.specs.declared.building.Order.{Order}
use Rattle.hooktool.specs.declared.building.Purpose.{Purpose}
use Rattle.hooktool.specs.declared.building.Purpose.TheVariants as purposes
use Rattle.hooktool.specs.declared.fault.HooktoolFault.{HooktoolFault}
use Rattle.hooktool.specs.declared.report.CommandReport.{CommandReport}
use Rattle.hooktool.specs.Annotations.{fuel_for}
use Rattle.hooktool.specs.Builds.{IsPlaced, TellsFunction, Wanted, built_text}
use Rattle.hooktool.specs.Builds.{is_file_name, object_path}
use Rattle.hooktool.specs.Explanations.{IsExplained}

abbrev pub folder_of : Purpose → Option (List ℕ)
folder_of (purposes.Object folder) = Some folder.now
folder_of purposes.Explanation = None

abbrev pub wanted_of : KnownFiles → Order → Wanted
wanted_of known order = record {
  folder = folder_of order.purpose;
  hook = order.hook;
  fuel = order.fuel;
  written = known.written;
}

-- An object was found of this code that the verifier accepts; its bytes were written, if objects
-- are asked for, and its bound is told.
pub record IsFoundCode (wanted : Wanted) (hook : Hook) (function code : List ℕ)
    (report : CommandReport) : Type 0 where
  pub plain : is_file_name function ≡ true
  pub object : ObjectParts
  pub bytes : List ℕ
  pub accepted : Program
  pub found : Option ℕ
  pub annotation : IsAnnotation hook (with_found (fuel_for hook wanted.fuel) found) code object
      bytes accepted
  pub untold : IsSome wanted.fuel.turns → found ≡ None
  pub written : IsPlaced wanted function bytes
  pub told : TellsFunction wanted.folder function (hook_name hook) accepted found
      (string_bytes report.text)

-- Or none was, and that is told.
abbrev pub IsBuiltCode : Wanted → Hook → (function code : List ℕ) → CommandReport → Type 0
IsBuiltCode wanted hook function code report = (report.is_refused ≡ true)
    ⊎ IsFoundCode wanted hook function code report

-- The object that was found for a function is written, and its bound told; or it is explained.
abbrev pub IsHandedOut : (written : (path bytes : List ℕ) → Type 0) → Purpose
    → (function hook bytes : List ℕ) → Program → (found : Option ℕ) → CommandReport → Type 0
IsHandedOut written (purposes.Object folder) function hook bytes program found report =
    written (object_path folder.now function) bytes
    × (string_bytes report.text ≡ built_text folder.now function hook program found)
IsHandedOut written purposes.Explanation function hook bytes program found report =
    IsExplained bytes report

-- What else is told stands behind the report, if it is told. Both are refused if one is.
abbrev pub IsJoined : CommandReport → Result CommandReport HooktoolFault → CommandReport → Type 0
IsJoined before (Ok more) after =
    (string_bytes after.text ≡ string_bytes before.text ++ string_bytes more.text)
    × (after.is_refused ≡ (before.is_refused || more.is_refused))
IsJoined before (Err fault) after = ⊥
