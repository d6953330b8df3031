-- What is told of an object file that was explained.
use Rattle.std.proofs.Common.{◌≡◌, ◌∙◌, ◌++◌, ℕ, List, Ok, Err, ap, append_assoc, sym}
use Rattle.std.specs.Prelude.{IfErr, IfOk, Result, is_err, string_bytes}
use Rattle.explanations.specs.Told.{TellsVerdict}
use Rattle.verifier.specs.Verdicts.{Accepts, Refuses}
use Rattle.verifier.specs.declared.error.VerifyError.{VerifyError}
use Rattle.verifier.specs.Programs.{Program}
use Rattle.hooktool.specs.Explanations.{IsExplained}
use Rattle.hooktool.specs.declared.report.CommandReport.{CommandReport}

pub explained : {E : Type 0} (bytes : List ℕ) (verdict : Result Program VerifyError)
    (before last told : List ℕ) (r : Result CommandReport E) → IfOk verdict (Accepts bytes)
    → IfErr verdict (Refuses bytes) → TellsVerdict verdict told
    → IfOk r (λ report. string_bytes report.text ≡ before ++ (last ++ told))
    → IfOk r (λ report. report.is_refused ≡ is_err verdict) → IfOk r (IsExplained bytes)
explained {E} bytes verdict before last told (Ok report) accepts refuses tells text refused =
    record {
      verdict = verdict;
      accepts = accepts;
      refuses = refuses;
      before = before ++ last;
      told = told;
      text_is = text ∙ sym (append_assoc before last told);
      tells = tells;
      refused = refused;
    }
explained {E} bytes verdict before last told (Err e) accepts refuses tells text refused = tt

-- with more in front of it
pub explained_behind : (bytes head : List ℕ) (one other : CommandReport) → IsExplained bytes one
    → string_bytes other.text ≡ head ++ string_bytes one.text → other.is_refused ≡ one.is_refused
    → IsExplained bytes other
explained_behind bytes head one other is text same = record {
  verdict = is.verdict;
  accepts = is.accepts;
  refuses = is.refuses;
  before = head ++ is.before;
  told = is.told;
  text_is = text ∙ (ap (λ (t : List ℕ). head ++ t) is.text_is
      ∙ sym (append_assoc head is.before is.told));
  tells = is.tells;
  refused = same ∙ is.refused;
}
