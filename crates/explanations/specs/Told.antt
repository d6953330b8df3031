-- The text of a verdict.
use Rattle.std.specs.Prelude.{◌≡◌, ℕ, List, ◌++◌, Result, Ok, Err, codes, decimal}
use Rattle.verifier.specs.Verdicts.{accepted_line}
use Rattle.verifier.specs.declared.error.VerifyError.{VerifyError}
use Rattle.verifier.specs.declared.error.VerifyError.TheVariants as errors
use Rattle.transfer.specs.Rules.{rule_number}
use Rattle.verifier.specs.Programs.{Program}
use Rattle.verifier.specs.declared.refusal.Refusal.{Refusal}

-- the beginning of the line for a refused program, as `routerd verify` prints it
abbrev pub refused_words : Refusal → List ℕ
refused_words refusal = codes "refused slot "
    ++ (decimal refusal.slot ++ (codes " rule " ++ decimal (rule_number refusal.rule)))

-- The text is the bound of an accepted program alone; it begins with the slot and the rule of a
-- refused one.
abbrev pub TellsVerdict : Result Program VerifyError → List ℕ → Type 0
TellsVerdict (Ok program) text = text ≡ accepted_line program.bound
TellsVerdict (Err (errors.Refused refusal)) text =
    (more : List ℕ) × (text ≡ refused_words refusal ++ more)
TellsVerdict (Err (errors.Object error)) text = Unit {0}
TellsVerdict (Err (errors.Code error)) text = Unit {0}
