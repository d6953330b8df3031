-- What is told of an object file by an explanation.
use Rattle.std.specs.Prelude.{◌≡◌, ℕ, ◌++◌, List, Result, IfErr, IfOk, is_err, string_bytes}
use Rattle.explanations.specs.Told.{TellsVerdict}
use Rattle.verifier.specs.Verdicts.{Accepts, Refuses}
use Rattle.verifier.specs.declared.error.VerifyError.{VerifyError}
use Rattle.verifier.specs.Programs.{Program}
use Rattle.hooktool.specs.declared.report.CommandReport.{CommandReport}

-- The verdict is the verifier's on the object file that the bytes are. The text ends with its
-- words, and the report is a refusal if it is one.
pub record IsExplained (bytes : List ℕ) (report : CommandReport) : Type 0 where
  pub verdict : Result Program VerifyError
  pub accepts : IfOk verdict (Accepts bytes)
  pub refuses : IfErr verdict (Refuses bytes)
  pub before : List ℕ
  pub told : List ℕ
  pub text_is : string_bytes report.text ≡ before ++ told
  pub tells : TellsVerdict verdict told
  pub refused : report.is_refused ≡ is_err verdict
