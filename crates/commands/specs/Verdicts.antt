-- What is told of the verifier's word on an object file.
use Rattle.std.specs.Prelude.{◌≡◌, ◌≢◌, ℕ, ◌⊎◌, List, [], ◌∷◌, ◌++◌, true, false, codes, decimal}
use Rattle.std.specs.Prelude.{string_bytes}
use Rattle.transfer.specs.Rules.{rule_number}
use Rattle.transfer.specs.declared.rule.Rule.TheVariants as rules
use Rattle.verifier.specs.Programs.{Program}
use Rattle.verifier.specs.declared.refusal.Refusal.{Refusal}
use Rattle.verifier.specs.Verdicts.{Accepts, Refuses, accepted_line}
use Rattle.verifier.specs.declared.error.VerifyError.TheVariants.{Refused}
use Rattle.commands.specs.declared.report.CommandOutput.{CommandOutput}

-- the line that is printed for a refused program
abbrev pub refused_line : Refusal → List ℕ
refused_line refusal = codes "refused slot "
    ++ (decimal refusal.slot ++ (codes " rule " ++ (decimal (rule_number refusal.rule) ++ 10 ∷ [])))

-- The program of the object file that the bytes are is accepted, and its bound is told.
pub record IsAcceptance (bytes : List ℕ) (report : CommandOutput) : Type 0 where
  pub program : Program
  pub accepts : Accepts bytes program
  pub told : string_bytes report.text ≡ accepted_line program.bound
  pub done : report.is_refused ≡ false

-- It is refused, and the slot and the rule are told; want of memory is no rule of programs.
pub record IsRefusal (bytes : List ℕ) (report : CommandOutput) : Type 0 where
  pub refusal : Refusal
  pub refuses : Refuses bytes (Refused refusal)
  pub of_program : refusal.rule ≢ rules.Memory
  pub told : string_bytes report.text ≡ refused_line refusal
  pub refused : report.is_refused ≡ true

abbrev pub IsVerdict : List ℕ → CommandOutput → Type 0
IsVerdict bytes report = IsAcceptance bytes report ⊎ IsRefusal bytes report
