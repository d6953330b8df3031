-- What is told of a program's runs on a question.
use Rattle.std.specs.Prelude.{◌≡◌, ℕ, List, is_err}
use Rattle.std.specs.List.{list_any}
use Rattle.hooktool.specs.declared.report.CommandReport.{CommandReport}
use Rattle.hooktool_trials.specs.declared.requests.PacketSource.{PacketSource}
use Rattle.hooktool_trials.specs.declared.requests.PacketSource.TheVariants as packets
use Rattle.hooktool_trials.specs.declared.requests.Question.{Question}
use Rattle.hooktool_trials.specs.Plays.{PacketIs}
use Rattle.hooktool_trials.specs.Runs.{IsTrial}
use Rattle.hooktool_trials.specs.Stops.{KnownFiles}
use Rattle.hooktool_trials.specs.declared.trial.ObjectTrial.{ObjectTrial}

-- the packet is the one that was given, or what its file has
abbrev pub IsPacketOf : KnownFiles → PacketSource → List ℕ → Type 0
IsPacketOf known (packets.File path) packet = known.holds path.now packet
IsPacketOf known source packet = PacketIs source packet

-- The program of the object file ran on the question, and the report is a refusal if a run gave no
-- answer.
pub record IsTried (bytes packet : List ℕ) (question : Question) (report : CommandReport)
    : Type 0 where
  pub trial : ObjectTrial
  pub ran : IsTrial bytes packet question trial
  pub stuck : report.is_refused ≡ list_any (λ ending. is_err ending.outcome) trial.endings.items
