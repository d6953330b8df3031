-- What is told of a test.
use Rattle.std.specs.Prelude.{◌≡◌, ◌≢◌, ◌⊎◌, ℕ, List, not}
use Rattle.std.specs.List.{list_any}
use Rattle.hooktool_trials.specs.Steps.{AreLines, IsWrong}
use Rattle.hooktool_trials.specs.declared.steps.LineError.TheVariants as wrongs
use Rattle.hooktool_trials.specs.declared.steps.TestLine.{TestLine}
use Rattle.hooktool_trials.specs.declared.steps.WrongLine.{WrongLine}
use Rattle.hooktool_trials.specs.Stops.{IsStopped, KnownFiles}
use Rattle.hooktool_trials.specs.declared.stage.Point.{Point}
use Rattle.hooktool_trials.specs.declared.stopped.PlayError.TheVariants as stops
use Rattle.hooktool_trials.specs.declared.stopped.Stopped.{Stopped}
use Rattle.hooktool.specs.declared.report.CommandReport.{CommandReport}
use Rattle.hooktool.specs.declared.testing.Tested.{Tested}
use Rattle.hooktool.specs.declared.testing.Tested.TheVariants as tests

-- The report is a refusal exactly if one of its points isn't ok. (Of which points there are, the
-- contract says nothing.)
pub record IsReport (report : CommandReport) : Type 0 where
  pub points : List Point
  pub refused : report.is_refused ≡ list_any (λ point. not point.verdict.is_ok) points

-- One of the lines can't be played, and not for want of memory.
abbrev pub IsUnplayed : KnownFiles → List TestLine → Type 0
IsUnplayed known lines =
    (stopped : Stopped) × IsStopped known lines stopped × (stopped.error ≢ stops.Memory)

-- Of the lines with these words one is wrong, or what they say can't be played.
abbrev pub IsWrongTest : KnownFiles → (words : List (List (List ℕ))) → Type 0
IsWrongTest known words =
    ((wrong : WrongLine) × IsWrong words wrong × (wrong.error ≢ wrongs.Memory))
    ⊎ ((lines : List TestLine) × AreLines 1 words lines × IsUnplayed known lines)

abbrev pub HasWrongLine : KnownFiles → Type 0
HasWrongLine known = (words : List (List (List ℕ))) × IsWrongTest known words

-- The lines were played; or one can't be, for this reason.
abbrev pub IsTestedOr : (reason : Type 0) → Tested → Type 0
IsTestedOr reason (tests.Played report) = IsReport report
IsTestedOr reason (tests.Unread text) = reason

-- The lines of the file were played; or one of them is wrong or can't be.
abbrev pub IsTested : KnownFiles → (path : List ℕ) → Tested → Type 0
IsTested known path tested =
    IsTestedOr ((file : List ℕ) × known.holds path file × HasWrongLine known) tested
