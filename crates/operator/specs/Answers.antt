-- What a line of the console is answered. Each answer may be that memory was refused.
use Rattle.std.specs.Prelude.{◌≡◌, ◌⊎◌, ℕ, Bool, true, false, List, [], ◌∷◌, ◌++◌, Option, None}
use Rattle.std.specs.Prelude.{Some}
use Rattle.std.specs.Prelude.{string_bytes}
use mathlib.Core.List.{IsPrefix}
use Rattle.words.specs.Numbers.{Moment, RouterNumber}
use Rattle.words.specs.Prefixes.{Network}
use Rattle.words.specs.declared.route.External.{External}
use Rattle.isa.specs.declared.hook.Hook.{Hook}
use Rattle.adjacency.specs.declared.state.NeighborState.{NeighborState}
use Rattle.verifier.specs.Programs.{Program}
use Rattle.verifier.specs.Verdicts.{Accepts}
use Rattle.hooks.specs.declared.operation.LoaderOperation.{LoaderOperation}
use Rattle.hooks.specs.declared.operation.LoaderOperation.TheVariants.{Attach, Detach}
use Rattle.turns.specs.Numbers.{turn_error_number}
use Rattle.turns.specs.Askers.{AskerState, IsLater}
use Rattle.worker.specs.Lives.{Senses, Serves, Standing}
use Rattle.turns.specs.declared.turned.TurnOutcome.{TurnOutcome}
use Rattle.turns.specs.declared.turned.TurnError.{TurnError}
use Rattle.turns.specs.Turns.{IsTurned, Offers, Refuses, RefusesFor, Took}
use Rattle.turns.specs.declared.work.Work.{Work}
use Rattle.turns.specs.declared.work.Work.TheVariants as work
use Rattle.console.specs.Commands.{LineAsks}
use Rattle.console.specs.declared.command.Command.{Command}
use Rattle.console.specs.declared.command.Command.TheVariants as commands
use Rattle.operator.specs.declared.reply.Reply.{Reply}
use Rattle.operator.specs.declared.reply.Reply.TheVariants as reply
use Rattle.operator.specs.Reasons.{Holds, IsReasonText, Unreadable}
use Rattle.operator.specs.Shown.{HasReadSome, IsCountersText, ShowsNeighbors, ShowsTable}

-- ---- what answers rest on

-- what is said of neighbors at this number of interfaces
abbrev pub Lists : Type 1
Lists = (interfaces : ℕ) → List (Option (RouterNumber × NeighborState)) → Type 0

-- nothing is known of the files of the system
abbrev pub IsAnyFile : Holds
IsAnyFile path bytes = Unit {0}

abbrev pub IsAnyPath : Unreadable
IsAnyPath path = Unit {0}

-- what is said of the destinations that a router announces, or doesn't, after this number of events
-- of the port that asks
abbrev pub Wanted : Type 1
Wanted = (events : ℕ) → Network → Bool → Type 0

-- what the router says: what it offers, what comes of the events that it takes and why it takes
-- others not, what it announces and who its neighbors are; and what files hold, and which can't be
-- read
pub record Sources : Type 1 where
  pub offers : Offers
  pub took : Took
  pub refuses : Refuses
  pub wanted : Wanted
  pub lists : Lists
  pub holds : Holds
  pub unreadable : Unreadable

abbrev pub sources : Offers → Took → Refuses → Wanted → Lists → Holds → Unreadable → Sources
sources offers took refuses wanted lists holds unreadable = record {
  offers = offers;
  took = took;
  refuses = refuses;
  wanted = wanted;
  lists = lists;
  holds = holds;
  unreadable = unreadable;
}

-- What a line changes: the loader's operations, the port's asker and seat as the line found them
-- and as it left them, whether a refresh of the table was due still and is due then, and how many
-- events count in the port's share.
pub record Change : Type 0 where
  pub before : List LoaderOperation
  pub now : List LoaderOperation
  pub found : AskerState
  pub left : AskerState
  pub still : Bool
  pub due : Bool
  pub counted : ℕ
  pub counts : ℕ

abbrev pub change : (before now : List LoaderOperation) → (found left : AskerState)
    → (still due : Bool) → (counted counts : ℕ) → Change
change before now found left still due counted counts = record {
  before = before;
  now = now;
  found = found;
  left = left;
  still = still;
  due = due;
  counted = counted;
  counts = counts;
}

-- A turn for this work was taken, at some moment, and just what it gave the router counts. Its port
-- came by some runs (of tries that were refused) from the first state to where the turn began; the
-- turn left it in the other state.
abbrev pub IsDone : Offers → Took → Refuses → (old new : AskerState) → Work → (counted counts : ℕ)
    → Type 0
IsDone offers took refuses old new w counted counts =
    (moment : Moment) × (turned : TurnOutcome) × (begun : AskerState) × IsLater old begun
    × IsTurned offers took refuses begun new moment w counted counts turned

-- as a worker serves one: a turn for this work was tried at a moment that the clock showed, and the
-- transport was given what it sends
abbrev pub IsServed : {Transport Clock : Type 0} → Senses Transport Clock → Work
    → (before after : Standing Transport Clock) → Type 0
IsServed {Clock = Clock} senses w before after =
    (moment : Moment) × (shown : Clock) × (ended : Moment) × senses.shows before.clock moment shown
    × Serves senses moment w (record before { clock = shown }) ended after

-- The event of this work was refused for this, or its questions were, at some moment, to a port
-- with this number of events until then, which came by some runs (of tries before) from the first
-- state to where the turn began.
abbrev pub IsRefusedOnce : Offers → Refuses → (old new : AskerState) → (counted : ℕ) → Work
    → TurnError → Type 0
IsRefusedOnce offers refuses old new counted w error =
    (moment : Moment) × (begun : AskerState) × IsLater old begun
    × RefusesFor offers refuses begun new counted moment w error

-- a turn for this work was refused, with this number, and no event counts
abbrev pub IsRefusal : Offers → Refuses → (old new : AskerState) → Work → (counted counts : ℕ)
    → (number : ℕ) → Type 0
IsRefusal offers refuses old new w counted counts number =
    (error : TurnError) × IsRefusedOnce offers refuses old new counted w error
    × (number ≡ turn_error_number error) × (counts ≡ counted)

-- a refresh of the table was tried: it is due still if it was refused, and nothing counts then
abbrev pub IsRefreshed : Offers → Took → Refuses → (old new : AskerState) → (due : Bool)
    → (counted counts : ℕ) → Type 0
IsRefreshed offers took refuses old new false counted counts =
    IsDone offers took refuses old new work.Refresh counted counts
IsRefreshed offers took refuses old new true counted counts =
    (error : TurnError) × IsRefusedOnce offers refuses old new counted work.Refresh error
    × (counts ≡ counted)

-- if a refresh of the table is due, it was tried; else nothing was done
abbrev pub IsMadeUp : Offers → Took → Refuses → (due still : Bool) → (old new : AskerState)
    → (before counted : ℕ) → Type 0
IsMadeUp offers took refuses false still old new before counted =
    (still ≡ false) × (new ≡ old) × (counted ≡ before)
IsMadeUp offers took refuses true still old new before counted =
    IsRefreshed offers took refuses old new still before counted × IsLater old new

-- ---- what a line leaves as it is

-- the loader did nothing, and a refresh is due exactly if one was
abbrev pub LeavesPrograms : Change → Type 0
LeavesPrograms c = (c.now ≡ c.before) × (c.due ≡ c.still)

-- nor did the port learn anything, and no event counts
pub record IsUnchanged (c : Change) : Type 0 where
  pub programs : LeavesPrograms c
  pub known : c.left.known ≡ c.found.known
  pub events : c.counts ≡ c.counted

-- nor did the port's seat use the shared words
pub record IsUntouched (c : Change) : Type 0 where
  pub unchanged : IsUnchanged c
  pub seat : c.left.seat ≡ c.found.seat

-- ---- answers

-- the asker at its seat, once it learnt of these operations
abbrev pub learnt : AskerState → (known : List LoaderOperation) → AskerState
learnt asker known = record asker { known = known }

-- After the programs were changed the change was counted. Then the port learnt of it, and a
-- refresh of the table was tried, by programs that are no older than the change.
pub record IsFollowed (offers : Offers) (took : Took) (refuses : Refuses)
    (now : List LoaderOperation) (found left : AskerState) (due : Bool) (counted counts : ℕ)
    : Type 0 where
  pub changed : took.change_counted now
  -- those that the port knew when the refresh was tried
  pub knew : List LoaderOperation
  pub saw : IsPrefix found.known knew
  pub learns : IsPrefix now knew
  pub later : IsLater (learnt found knew) left
  pub refreshed : IsRefreshed offers took refuses (learnt found knew) left due counted counts

-- so it is of a line's change
abbrev pub IsFollowedUp : Offers → Took → Refuses → Change → Type 0
IsFollowedUp offers took refuses c =
    IsFollowed offers took refuses c.now c.found c.left c.due c.counted c.counts

-- the program was published at its hook, with its bound; or memory was refused, and nothing changed
abbrev pub IsPublished : Offers → Took → Refuses → Change → Program → Reply → Type 0
IsPublished offers took refuses c program (reply.Attached hook bound) =
    (c.now ≡ c.before ++ Attach program ∷ []) × IsFollowedUp offers took refuses c
    × (program.hook ≡ hook) × (program.bound ≡ bound)
IsPublished offers took refuses c program reply.Memory = IsUntouched c
IsPublished offers took refuses c program other = ⊥

-- a program of this hook was published, the one that the file at the path holds, which is accepted
-- within this bound
pub record IsAttached (s : Sources) (c : Change) (path : List ℕ) (hook : Hook) (bound : ℕ)
    : Type 0 where
  pub bytes : List ℕ
  pub program : Program
  pub held : s.holds path bytes
  pub accepted : Accepts bytes program
  pub published : c.now ≡ c.before ++ Attach program ∷ []
  pub followed : IsFollowedUp s.offers s.took s.refuses c
  pub of_hook : program.hook ≡ hook
  pub of_bound : program.bound ≡ bound

-- a program was published, or lines say why none was; or `Memory` is answered, and nothing changed
abbrev pub IsAnswerToAttach : Sources → Change → (path : List ℕ) → Reply → Type 0
IsAnswerToAttach s c path (reply.Attached hook bound) = IsAttached s c path hook bound
IsAnswerToAttach s c path (reply.Lines reason) =
    IsUntouched c × IsReasonText s.holds s.unreadable path (string_bytes reason)
IsAnswerToAttach s c path reply.Memory = IsUntouched c
IsAnswerToAttach s c path other = ⊥

-- that hook has no program; or memory was refused, and nothing changed
abbrev pub IsAnswerToDetach : Offers → Took → Refuses → Change → Hook → Reply → Type 0
IsAnswerToDetach offers took refuses c hook (reply.Detached of) =
    (of ≡ hook) × (c.now ≡ c.before ++ Detach hook ∷ []) × IsFollowedUp offers took refuses c
IsAnswerToDetach offers took refuses c hook reply.Memory = IsUntouched c
IsAnswerToDetach offers took refuses c hook other = ⊥

-- the router took the announcement, and after that announces the destination or doesn't; or the
-- turn was refused
abbrev pub IsAnswerToAdd : Offers → Took → Refuses → Wanted → (old new : AskerState) → External
    → (counted counts : ℕ) → Reply → Type 0
IsAnswerToAdd offers took refuses wanted old new external counted counts reply.Originated =
    IsDone offers took refuses old new (work.Add external) counted counts
    × wanted counts external.prefix true
IsAnswerToAdd offers took refuses wanted old new external counted counts reply.Withheld =
    IsDone offers took refuses old new (work.Add external) counted counts
    × wanted counts external.prefix false
IsAnswerToAdd offers took refuses wanted old new external counted counts (reply.Refused number) =
    IsRefusal offers refuses old new (work.Add external) counted counts number
IsAnswerToAdd offers took refuses wanted old new external counted counts other = ⊥

-- the router took the withdrawal, or the turn was refused
abbrev pub IsAnswerToWithdraw : Offers → Took → Refuses → (old new : AskerState) → Network
    → (counted counts : ℕ) → Reply → Type 0
IsAnswerToWithdraw offers took refuses old new prefix counted counts reply.Withdrawn =
    IsDone offers took refuses old new (work.Withdraw prefix) counted counts
IsAnswerToWithdraw offers took refuses old new prefix counted counts (reply.Refused number) =
    IsRefusal offers refuses old new (work.Withdraw prefix) counted counts number
IsAnswerToWithdraw offers took refuses old new prefix counted counts other = ⊥

-- lines, of this text, or memory was refused
abbrev pub AreLines : (IsText : List ℕ → Type 0) → Reply → Type 0
AreLines IsText (reply.Lines lines) = IsText (string_bytes lines)
AreLines IsText reply.Memory = Unit {0}
AreLines IsText other = ⊥

-- the counters' lines, as the seat read them; or memory was refused, when it had read some
abbrev pub IsAnswerToCounters : Change → Reply → Type 0
IsAnswerToCounters c (reply.Lines lines) =
    IsCountersText c.found.seat c.left.seat (string_bytes lines)
IsAnswerToCounters c reply.Memory = HasReadSome c.found.seat c.left.seat
IsAnswerToCounters c other = ⊥

-- What each command is answered at a router of this number of interfaces. What is shown changes
-- nothing, but for the seat that reads the counters, and no announcement or withdrawal changes the
-- programs.
abbrev pub IsAnswerTo : Sources → (interfaces : ℕ) → Change → Command → Reply → Type 0
IsAnswerTo s interfaces c (commands.Attach path) answer =
    IsAnswerToAttach s c path.now answer
IsAnswerTo s interfaces c (commands.Detach hook) answer =
    IsAnswerToDetach s.offers s.took s.refuses c hook answer
IsAnswerTo s interfaces c (commands.Add external) answer =
    LeavesPrograms c
    × IsAnswerToAdd s.offers s.took s.refuses s.wanted c.found c.left external c.counted
    c.counts answer
IsAnswerTo s interfaces c (commands.Withdraw prefix) answer =
    LeavesPrograms c
    × IsAnswerToWithdraw s.offers s.took s.refuses c.found c.left prefix c.counted c.counts
    answer
IsAnswerTo s interfaces c commands.Table answer =
    IsUntouched c × AreLines (ShowsTable s.offers) answer
IsAnswerTo s interfaces c commands.Neighbors answer =
    IsUntouched c × AreLines (ShowsNeighbors (s.lists interfaces)) answer
IsAnswerTo s interfaces c commands.Counters answer =
    IsUnchanged c × IsAnswerToCounters c answer
IsAnswerTo s interfaces c commands.Quit answer = ⊥

-- a command that is answered; there is no answer if the console ends, and then nothing changed
abbrev pub IsCarriedOut : Sources → (interfaces : ℕ) → Change → Command → Option Reply → Type 0
IsCarriedOut s interfaces c command None = (command ≡ commands.Quit) × IsUntouched c
IsCarriedOut s interfaces c command (Some answer) = IsAnswerTo s interfaces c command answer

-- A line is unknown only if it is no command, and then nothing changed, nor if memory was refused
-- to read it; else it is answered as its command is, and there is no answer only if it is `quit`.
abbrev pub IsObeyed : Sources → (interfaces : ℕ) → Change → (line : List ℕ) → Option Reply → Type 0
IsObeyed s interfaces c line (Some reply.Unknown) =
    IsUntouched c × ((command : Command) → LineAsks line command → ⊥)
IsObeyed s interfaces c line (Some reply.Memory) =
    IsUntouched c
    ⊎ ((command : Command) × LineAsks line command
    × IsAnswerTo s interfaces c command reply.Memory)
IsObeyed s interfaces c line answer =
    (command : Command) × LineAsks line command × IsCarriedOut s interfaces c command answer
