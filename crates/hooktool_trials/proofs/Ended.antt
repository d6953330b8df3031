-- Why a test isn't played to its end, line by line.
use Rattle.std.proofs.Common.{◌≡◌, ◌∙◌, ◌<◌, ℕ, List, Some, ap, get_or, inl, inr, length}
use Rattle.std.proofs.Common.{refl, sym}
use Rattle.std.proofs.lemmas.Option.{slice_get-get_or}
use Rattle.std.specs.Prelude.{◌⊎◌}
use Rattle.hooktool_trials.specs.declared.steps.TestLine.{TestLine}
use Rattle.hooktool_trials.specs.Stops.{IsStopped, KnownFiles, Stops}
use Rattle.hooktool_trials.specs.declared.stopped.PlayError.{PlayError}
use Rattle.hooktool_trials.specs.declared.stopped.PlayError.TheVariants as errors

-- the line at this place can't be played
pub stops_at : (known : KnownFiles) (lines : List TestLine) (i : ℕ) (d line : TestLine)
    (error : PlayError) → i < length lines → line ≡ get_or lines i d
    → (error ≡ errors.Memory) ⊎ Stops known line.step error
    → IsStopped known lines (record { number = line.number; error = error })
stops_at known lines i d line error lt is why = elim why [
  | inl memory ↦ inl memory
  | inr stops ↦ inr (i, line, slice_get-get_or lines i d lt ∙ ap Some (sym is), refl, stops)
]
