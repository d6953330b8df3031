-- How the program ends: what was asked for, what is printed, and with which status.
use Rattle.std.specs.Prelude.{◌≡◌, ◌⊎◌, ℕ, List, Bool, true, false, Some, Result, Ok, Err}
use Rattle.std.specs.Prelude.{IfErr, IfOk, string_bytes}
use Rattle.std.specs.Io.KnownBytes.{Appends}
use Rattle.hooktool.specs.Streams.{StreamState}
use Rattle.clap.specs.Values.{kind_of}
use Rattle.clap.specs.declared.error.Error.{Error}
use Rattle.clap.specs.declared.error.ErrorKind.{ErrorKind}
use Rattle.clap.specs.declared.error.ErrorKind.TheVariants as kinds
use Rattle.hooktool_trials.specs.Requests.{Asks, IsRefusal}
use Rattle.hooktool_trials.specs.declared.requests.HooktoolRequest.{HooktoolRequest}
use Rattle.hooktool_trials.specs.declared.requests.HooktoolRequest.TheVariants as requests
use Rattle.hooktool_trials.specs.declared.requests.PlainRequest.TheVariants as plain
use Rattle.hooktool.specs.Annotations.{IsAnnotated}
use Rattle.hooktool.specs.Builds.{IsBuilt, IsExplainedFile}
use Rattle.hooktool.specs.Faults.{IsAnnotationFault, IsObjectFault, IsPacketFault}
use Rattle.hooktool.specs.Faults.{IsTestFault, IsUnplaced, IsUnread, IsUnwritten}
use Rattle.hooktool.specs.Statuses.{status_of, status_of_words}
use Rattle.hooktool.specs.Tests.{IsTested}
use Rattle.hooktool.specs.Trials.{IsPacketOf, IsTried}
use Rattle.hooktool.specs.declared.testing.Tested.{Tested}
use Rattle.hooktool.specs.declared.testing.Tested.TheVariants as tests
use Rattle.hooktool_trials.specs.Stops.{KnownFiles}
use Rattle.hooktool.specs.declared.fault.HooktoolFault.{HooktoolFault}
use Rattle.hooktool.specs.declared.report.CommandReport.{CommandReport}

-- The request was carried out, and this is told of the files that it names. Of a test more is told
-- than a report.
abbrev pub IsMadeOf : KnownFiles → HooktoolRequest → CommandReport → Type 0
IsMadeOf known (requests.Plain (plain.Annotate hook code object fuel)) report =
    (file : List ℕ) × known.holds code.now file
    × IsAnnotated (known.written object.now) hook fuel file report
IsMadeOf known (requests.Plain (plain.Build file folder hook fuel)) report =
    (bytes : List ℕ) × known.holds file.now bytes
    × IsBuilt bytes (record {
      folder = Some folder.now;
      hook = hook;
      fuel = fuel;
      written = known.written;
    }) report
IsMadeOf known (requests.Plain (plain.Explain object)) report =
    (bytes : List ℕ) × known.holds object.now bytes × IsExplainedFile known bytes report
IsMadeOf known (requests.Try object question) report =
    (bytes : List ℕ) × known.holds object.now bytes
    × (packet : List ℕ) × IsPacketOf known question.packet packet
    × IsTried bytes packet question report
IsMadeOf known (requests.Plain (plain.Test file)) report = ⊥

-- The request can't be carried out, for this fault.
abbrev pub IsFaultOf : KnownFiles → HooktoolRequest → HooktoolFault → Type 0
IsFaultOf known (requests.Plain (plain.Annotate hook code object fuel)) fault =
    IsUnread known code fault ⊎ IsUnwritten known object fault
    ⊎ ((file : List ℕ) × known.holds code.now file × IsAnnotationFault hook fuel file fault)
IsFaultOf known (requests.Plain (plain.Build file folder hook fuel)) fault =
    IsUnread known file fault ⊎ IsUnplaced known folder fault
IsFaultOf known (requests.Plain (plain.Explain object)) fault =
    IsUnread known object fault
    ⊎ ((bytes : List ℕ) × known.holds object.now bytes × IsObjectFault bytes fault)
IsFaultOf known (requests.Try object question) fault =
    IsUnread known object fault ⊎ IsPacketFault known question.packet fault
    ⊎ ((bytes : List ℕ) × known.holds object.now bytes × IsObjectFault bytes fault)
IsFaultOf known (requests.Plain (plain.Test file)) fault = ⊥

abbrev pub IsOutcomeOf : KnownFiles → HooktoolRequest → Result CommandReport HooktoolFault → Type 0
IsOutcomeOf known request outcome =
    IfOk outcome (IsMadeOf known request) × IfErr outcome (IsFaultOf known request)

-- a program that is refused and a run that gave no answer have status 1
abbrev pub status_of_refused : Bool → ℕ
status_of_refused true = 1
status_of_refused false = 0

-- A write to the stream failed, which has status 3.
abbrev pub Fails : StreamState → ℕ → Type 0
Fails after status = (status ≡ 3) × (after.has_failed ≡ true)

-- The report was printed, and the status is its own. Else the output failed.
abbrev pub Prints : CommandReport → (output output_after : StreamState) → ℕ → Type 0
Prints report output output_after status = Fails output_after status
    ⊎ ((status ≡ status_of_refused report.is_refused)
    × Appends output.contents output_after.contents (string_bytes report.text))

-- The status is the fault's own, or the text couldn't be told.
abbrev pub IsTold : HooktoolFault → (output_after : StreamState) → ℕ → Type 0
IsTold fault output_after status = Fails output_after status ⊎ (status ≡ status_of fault)

-- What a command made is printed, or its fault is told. The status says which it was.
abbrev pub Ends : Result CommandReport HooktoolFault → (output output_after : StreamState) → ℕ
    → Type 0
Ends (Ok report) output output_after status = Prints report output output_after status
Ends (Err fault) output output_after status = IsTold fault output_after status

-- A line that can't be played is told too, with status 2.
abbrev pub EndsPlayed : Result Tested HooktoolFault → (output output_after : StreamState) → ℕ
    → Type 0
EndsPlayed (Ok (tests.Played report)) output output_after status =
    Prints report output output_after status
EndsPlayed (Ok (tests.Unread text)) output output_after status =
    Fails output_after status ⊎ (status ≡ 2)
EndsPlayed (Err fault) output output_after status = IsTold fault output_after status

-- A test was asked for, and played; or its file can't be read, or memory was refused.
abbrev pub EndsTest : KnownFiles → HooktoolRequest → (output output_after : StreamState) → ℕ
    → Type 0
EndsTest known (requests.Plain (plain.Test file)) output output_after status =
    (outcome : Result Tested HooktoolFault) × IfOk outcome (IsTested known file.now)
    × IfErr outcome (IsTestFault known file)
    × EndsPlayed outcome output output_after status
EndsTest known other output output_after status = ⊥

-- What the request made is printed, or why it can't be carried out.
abbrev pub EndsRequest : KnownFiles → HooktoolRequest → (output output_after : StreamState) → ℕ
    → Type 0
EndsRequest known request output output_after status =
    ((outcome : Result CommandReport HooktoolFault) × IsOutcomeOf known request outcome
    × Ends outcome output output_after status)
    ⊎ EndsTest known request output output_after status

-- Help and want of memory leave the second stream as it was, a text about a mistake the first.
abbrev pub LeavesOne : ErrorKind → (output output_after errors errors_after : StreamState) → Type 0
LeavesOne kinds.OutOfMemory output output_after errors errors_after = errors_after ≡ errors
LeavesOne kinds.DisplayHelp output output_after errors errors_after = errors_after ≡ errors
LeavesOne kinds.DisplayVersion output output_after errors errors_after = errors_after ≡ errors
LeavesOne other output output_after errors errors_after = output_after ≡ output

-- What is wrong with the words is told with the status of its kind, or it couldn't be told.
pub record TellsWords (error : Error) (output output_after errors errors_after : StreamState)
    (status : ℕ) : Type 0 where
  pub status_is : Fails output_after status ⊎ Fails errors_after status
      ⊎ (status ≡ status_of_words (kind_of error))
  pub other_stream : LeavesOne (kind_of error) output output_after errors errors_after

-- What the words ask for is carried out, and the second stream is as it was. Else it is told what
-- is wrong with them, or that memory was refused.
abbrev pub EndsWords : KnownFiles → List (List ℕ)
    → (output output_after errors errors_after : StreamState) → ℕ → Type 0
EndsWords known words output output_after errors errors_after status =
    ((request : HooktoolRequest) × Asks words request
    × EndsRequest known request output output_after status
    × (errors_after ≡ errors))
    ⊎ ((error : Error) × IsRefusal words error
    × TellsWords error output output_after errors errors_after status)
