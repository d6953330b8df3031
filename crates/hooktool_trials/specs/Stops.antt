-- Why a test isn't played to its end: of its lines, and of the files that they name.
use Rattle.std.specs.Prelude.{◌≡◌, ◌⊎◌, ℕ, List, Some, slice_get}
use Rattle.hooktool_trials.specs.declared.requests.PacketSource.{PacketSource}
use Rattle.hooktool_trials.specs.declared.requests.PacketSource.TheVariants as packets
use Rattle.hooktool_trials.specs.declared.steps.PlainStep.TheVariants as plain
use Rattle.hooktool_trials.specs.declared.steps.Step.{Step}
use Rattle.hooktool_trials.specs.declared.steps.Step.TheVariants as steps
use Rattle.hooktool_trials.specs.declared.steps.TestLine.{TestLine}
use Rattle.hooktool_trials.specs.Captures.{Refuses}
use Rattle.hooktool_trials.specs.Runs.{IsRefusal}
use Rattle.hooktool_trials.specs.declared.captures.fault.CaptureError.{CaptureError}
use Rattle.hooktool_trials.specs.declared.error.TrialError.{TrialError}
use Rattle.hooktool_trials.specs.declared.error.TrialError.TheVariants as trials
use Rattle.hooktool_trials.specs.declared.stopped.PlayError.{PlayError}
use Rattle.hooktool_trials.specs.declared.stopped.PlayError.TheVariants as errors
use Rattle.hooktool_trials.specs.declared.stopped.Stopped.{Stopped}

-- What is known of files: which bytes one had that was read, which bytes one was made that was
-- written, and which one couldn't be read or written.
pub record KnownFiles : Type 1 where
  pub holds : (path bytes : List ℕ) → Type 0
  pub written : (path bytes : List ℕ) → Type 0
  pub unreadable : (path : List ℕ) → Type 0
  pub unwritable : (path : List ℕ) → Type 0

-- how a refusal of an object is told
abbrev pub error_of : TrialError → PlayError
error_of trials.Memory = errors.Memory
error_of trial = errors.Object trial

-- The file can't be read, or memory was refused.
abbrev pub IsUnread : KnownFiles → (path : List ℕ) → PlayError → Type 0
IsUnread known path error = (error ≡ errors.Memory)
    ⊎ ((error ≡ errors.Unreadable) × known.unreadable path)

-- The file at the path is no program's.
abbrev pub IsNoProgram : KnownFiles → (path : List ℕ) → PlayError → Type 0
IsNoProgram known path error = (bytes : List ℕ) × known.holds path bytes
    × (trial : TrialError) × IsRefusal bytes trial × (error ≡ error_of trial)

-- There is no program that could be asked, or it is none.
abbrev pub IsUnasked : PlayError → Type 0
IsUnasked error = (error ≡ errors.NoProgram) ⊎ ((trial : TrialError) × (error ≡ error_of trial))

-- The same of each packet of a capture; or one isn't whole, or the bytes are no capture.
abbrev pub IsUnaskedOfOne : PlayError → Type 0
IsUnaskedOfOne error = (error ≡ errors.CutPacket) ⊎ IsUnasked error

abbrev pub IsUnaskedOf : (bytes : List ℕ) → PlayError → Type 0
IsUnaskedOf bytes error = (error ≡ errors.Memory) ⊎ IsUnaskedOfOne error
    ⊎ ((why : CaptureError) × Refuses bytes why × (error ≡ errors.Capture why))

abbrev pub IsNoCapture : KnownFiles → (path : List ℕ) → PlayError → Type 0
IsNoCapture known path error = (bytes : List ℕ) × known.holds path bytes × IsUnaskedOf bytes error

-- The packet's file can't be read.
abbrev pub IsPacketUnread : KnownFiles → PacketSource → PlayError → Type 0
IsPacketUnread known (packets.File path) error = IsUnread known path.now error
IsPacketUnread known other error = ⊥

-- The step can't be played, for this reason. What is expected can always be compared.
abbrev pub Stops : KnownFiles → Step → PlayError → Type 0
Stops known (steps.Plain (plain.Program path)) error = IsUnread known path.now error
    ⊎ IsNoProgram known path.now error
Stops known (steps.Ask question) error = IsUnasked error
    ⊎ IsPacketUnread known question.packet error
Stops known (steps.Plain (plain.Packets path interface)) error = IsUnread known path.now error
    ⊎ IsNoCapture known path.now error
Stops known other error = ⊥

-- One of the lines can't be played, or memory was refused.
abbrev pub IsStopped : KnownFiles → List TestLine → Stopped → Type 0
IsStopped known lines stopped = (stopped.error ≡ errors.Memory)
    ⊎ ((at : ℕ) × (line : TestLine) × (slice_get lines at ≡ Some line)
    × (stopped.number ≡ line.number) × Stops known line.step stopped.error)
