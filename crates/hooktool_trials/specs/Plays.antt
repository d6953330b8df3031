-- What is found at the lines of a test.
use Rattle.std.specs.Prelude.{◌≡◌, ◌==◌, ℕ, List, [], ◌∷◌, Option, Some, None}
use Rattle.hooktool_trials.specs.declared.requests.PacketSource.{PacketSource}
use Rattle.hooktool_trials.specs.declared.requests.PacketSource.TheVariants as packets
use Rattle.hooktool_trials.specs.declared.steps.ExpectedAnswer.{ExpectedAnswer}
use Rattle.hooktool_trials.specs.declared.steps.TestLine.{TestLine}
use Rattle.hooktool_trials.specs.Answers.{meets}
use Rattle.hooktool_trials.specs.declared.stage.Found.TheVariants as founds
use Rattle.hooktool_trials.specs.declared.stage.Last.{Last}
use Rattle.hooktool_trials.specs.declared.stage.Point.{Point}
use Rattle.hooktool_trials.specs.declared.stage.PointResult.{PointResult}

-- a number beside the one that is expected, and the last run's end beside the answer that is
abbrev pub compared : (found expected : ℕ) → PointResult
compared found expected = record { is_ok = found == expected; found = founds.Number found }

abbrev pub judged : Last → ExpectedAnswer → PointResult
judged last expected = record { is_ok = meets expected last; found = founds.Run last }

-- the packet is the one that was given; of what a file has nothing is known
abbrev pub PacketIs : PacketSource → List ℕ → Type 0
PacketIs (packets.Bytes bytes) packet = packet ≡ bytes.items
PacketIs (packets.File path) packet = Unit {0}

-- the point of a line with a verdict
abbrev pub points_of : TestLine → Option PointResult → List Point
points_of line None = []
points_of line (Some verdict) =
    record { number = line.number; words = line.words; verdict = verdict } ∷ []
