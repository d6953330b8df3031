-- How the program ends: what it prints of what a command made, and with which status.
use Rattle.std.specs.Prelude.{◌≡◌, ◌≤◌, ℕ, ◌⊎◌, List, Bool, true, false, Option, Result, Ok, Err}
use Rattle.std.specs.Prelude.{IfOk, IfErr, string_bytes}
use Rattle.std.specs.Io.KnownBytes.{Appends}
use Rattle.commands.specs.declared.fault.CommandError.{CommandError}
use Rattle.commands.specs.declared.report.CommandOutput.{CommandOutput}
use Rattle.commands.specs.declared.fault.CommandError.TheVariants as faults
use Rattle.clap.specs.Simple.{App}
use Rattle.clap.specs.declared.error.Error.{Error}
use Rattle.commands.specs.Requests.{Asks, IsMistake}
use Rattle.commands.specs.declared.requests.CommandRequest.{CommandRequest}
use Rattle.commands.specs.declared.requests.CommandRequest.TheVariants as requests
use Rattle.commands.specs.Statuses.{status_of}
use Rattle.commands.specs.RawRuns.{IsBareRefused, IsRawReport}
use Rattle.commands.specs.Runs.{IsRun}
use Rattle.commands.specs.Assembly.{IsAssembled, IsListing, IsObjectFault, IsTextFault}
use Rattle.commands.specs.Verdicts.{IsVerdict}

-- The request was carried out, and this is told: of some file, since no contract says what a file
-- gives. A router prints by itself.
abbrev pub IsMadeOf : CommandRequest → CommandOutput → Type 0
IsMadeOf (requests.Raw hook file seats) report = IsRawReport hook seats report
IsMadeOf (requests.Run object context packet) report =
    (bytes : List ℕ) × IsRun bytes context packet.items report
IsMadeOf (requests.Asm source object) report = (text : List ℕ) × IsAssembled text report
IsMadeOf (requests.List object) report = (bytes : List ℕ) × IsListing bytes report
IsMadeOf (requests.Verify object) report = (bytes : List ℕ) × IsVerdict bytes report
IsMadeOf (requests.Route config) report = ⊥

-- The request can't be carried out, for this fault.
abbrev pub IsFaultOf : CommandRequest → CommandError → Type 0
IsFaultOf (requests.Raw hook file seats) fault =
    (fault ≡ faults.Read file) ⊎ (fault ≡ faults.Memory)
    ⊎ ((bytes : List ℕ) × IsBareRefused bytes fault)
IsFaultOf (requests.Run object context packet) fault =
    (fault ≡ faults.Read object) ⊎ ((bytes : List ℕ) × IsObjectFault bytes fault)
IsFaultOf (requests.Asm source object) fault =
    (fault ≡ faults.Read source) ⊎ (fault ≡ faults.Write object)
    ⊎ ((text : List ℕ) × IsTextFault text fault)
IsFaultOf (requests.List object) fault =
    (fault ≡ faults.Read object) ⊎ ((bytes : List ℕ) × IsObjectFault bytes fault)
IsFaultOf (requests.Verify object) fault =
    (fault ≡ faults.Read object) ⊎ ((bytes : List ℕ) × IsObjectFault bytes fault)
IsFaultOf (requests.Route config) fault = (fault ≡ faults.Read config) ⊎ (fault ≡ faults.Memory)

abbrev pub IsOutcomeOf : CommandRequest → Result CommandOutput CommandError → Type 0
IsOutcomeOf request outcome = IfOk outcome (IsMadeOf request) × IfErr outcome (IsFaultOf request)

-- Memory was refused, or the words ask for nothing.
abbrev pub IsFaultOfWords : App → List (List ℕ) → CommandError → Type 0
IsFaultOfWords line words fault =
    (fault ≡ faults.Memory)
    ⊎ ((error : Error) × IsMistake line words error × (fault ≡ faults.Usage error))

-- a program that is refused and a run that is stuck have status 1
abbrev pub status_of_refused : Bool → ℕ
status_of_refused true = 1
status_of_refused false = 0

-- The report was printed, and the status is its own. Else the output failed.
abbrev pub Prints : CommandOutput → Option (List ℕ) → Option (List ℕ) → ℕ → Type 0
Prints report old new status =
    (status ≡ 3)
    ⊎ ((status ≡ status_of_refused report.is_refused) × Appends old new (string_bytes report.text))

-- what a writer has, if that is known
abbrev pub Contents : Type 0
Contents = Option (List ℕ)

-- A text about usage leaves the first writer as it was, and every other text the second.
abbrev pub LeavesOne : CommandError → (output output_after errors errors_after : Contents) → Type 0
LeavesOne (faults.Usage error) output output_after errors errors_after = output_after ≡ output
LeavesOne fault output output_after errors errors_after = errors_after ≡ errors

-- The status is the fault's own, or the text couldn't be told.
pub record Tells (fault : CommandError) (output output_after errors errors_after : Contents)
    (status : ℕ) : Type 0 where
  pub status_is : (status ≡ 3) ⊎ (status ≡ status_of fault)
  pub other_writer : LeavesOne fault output output_after errors errors_after

-- What a command made is printed, and the second writer is as it was; or its fault is told. The
-- status says which it was.
abbrev pub Ends : Result CommandOutput CommandError
    → (output output_after errors errors_after : Contents) → ℕ → Type 0
Ends (Ok report) output output_after errors errors_after status =
    Prints report output output_after status × (errors_after ≡ errors)
Ends (Err fault) output output_after errors errors_after status =
    Tells fault output output_after errors errors_after status

-- A router was asked for and ran. It printed by itself, and no text about usage.
abbrev pub Routed : CommandRequest → (errors errors_after : Contents) → ℕ → Type 0
Routed (requests.Route config) errors errors_after status = (status ≤ 4) × (errors_after ≡ errors)
Routed other errors errors_after status = ⊥

-- What the request made is printed, or why it can't be carried out; or a router ran.
abbrev pub EndsRequest : CommandRequest → (output output_after errors errors_after : Contents) → ℕ
    → Type 0
EndsRequest request output output_after errors errors_after status =
    ((outcome : Result CommandOutput CommandError) × IsOutcomeOf request outcome
    × Ends outcome output output_after errors errors_after status)
    ⊎ Routed request errors errors_after status

-- What the words ask for is carried out. Else it is told what is wrong with them, or that memory
-- was refused.
abbrev pub EndsWords : App → List (List ℕ) → (output output_after errors errors_after : Contents)
    → ℕ → Type 0
EndsWords line words output output_after errors errors_after status =
    ((request : CommandRequest) × Asks line words request
    × EndsRequest request output output_after errors errors_after status)
    ⊎ ((fault : CommandError) × IsFaultOfWords line words fault
    × Ends (Err fault) output output_after errors errors_after status)
