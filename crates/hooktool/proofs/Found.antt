-- What is told of what was found for a file.
use Rattle.std.proofs.Common.{◌≡◌, false, ℕ, List, Ok, Err, None, Option, inl}
use Rattle.std.specs.Prelude.{IfOk, IsSome, Result, string_bytes}
use Rattle.annotations.specs.Annotated.{IsAnnotation, with_found}
use Rattle.isa.specs.declared.hook.Hook.{Hook}
use Rattle.object.specs.Objects.{ObjectParts}
use Rattle.verifier.specs.Programs.{Program}
use Rattle.hooktool_trials.specs.declared.requests.FuelAsked.{FuelAsked}
use Rattle.hooktool.specs.Annotations.{IsAnnotated, accepted_text, fuel_for}
use Rattle.hooktool.specs.declared.report.CommandReport.{CommandReport}

pub found : {E : Type 0} (are_written : List ℕ → Type 0) (hook : Hook) (fuel : FuelAsked)
    (file : List ℕ) (object : ObjectParts) (bytes : List ℕ) (accepted : Program)
    (turns : Option ℕ) (r : Result CommandReport E)
    → IsAnnotation hook (with_found (fuel_for hook fuel) turns) file object bytes accepted
    → IfOk r (λ report. are_written bytes)
    → IfOk r (λ report. string_bytes report.text ≡ accepted_text accepted turns)
    → IfOk r (λ report. report.is_refused ≡ false) → (IsSome fuel.turns → turns ≡ None)
    → IfOk r (IsAnnotated are_written hook fuel file)
found {E} are_written hook fuel file object bytes accepted turns (Ok report) is written told done
    untold =
    inl (record {
      object = object;
      bytes = bytes;
      accepted = accepted;
      found = turns;
      annotation = is;
      written = written;
      told = told;
      untold = untold;
      done = done;
    })
found {E} are_written hook fuel file object bytes accepted turns (Err e) is written told done
    untold = tt
