-- What is told of a program's runs.
use Rattle.std.proofs.Common.{◌≡◌, ℕ, List, Ok, Err}
use Rattle.std.specs.List.{list_any}
use Rattle.std.specs.Prelude.{IfOk, Result, is_err}
use Rattle.hooktool_trials.specs.declared.requests.Question.{Question}
use Rattle.hooktool_trials.specs.Runs.{IsTrial}
use Rattle.hooktool_trials.specs.declared.trial.ObjectTrial.{ObjectTrial}
use Rattle.hooktool.specs.Trials.{IsTried}
use Rattle.hooktool.specs.declared.report.CommandReport.{CommandReport}

pub tried : {E : Type 0} (bytes packet : List ℕ) (question : Question) (trial : ObjectTrial)
    (r : Result CommandReport E) → IsTrial bytes packet question trial
    → IfOk r (λ report. report.is_refused
    ≡ list_any (λ ending. is_err ending.outcome) trial.endings.items)
    → IfOk r (IsTried bytes packet question)
tried {E} bytes packet question trial (Ok report) ran stuck = record {
  trial = trial;
  ran = ran;
  stuck = stuck;
}
tried {E} bytes packet question trial (Err e) ran stuck = tt
