-- What is said at the console, from its first line to its end.
use Rattle.std.specs.Prelude.{◌≡◌, ◌⊎◌, ℕ, Bool, true, false, List, [], ◌∷◌}
use Rattle.std.specs.Prelude.{Option, None, Some, Result, Ok, Err, string_bytes}
use Rattle.hooks.specs.declared.operation.LoaderOperation.{LoaderOperation}
use Rattle.turns.specs.Askers.{AskerState, IsLater}
use Rattle.turns.specs.declared.turned.TurnError.{TurnError}
use Rattle.turns.specs.Turns.{Offers, Refuses, Took}
use Rattle.turns.specs.declared.work.Work.TheVariants.{Tick}
use Rattle.operator.specs.Answers.{IsDone, IsMadeUp, IsObeyed, IsRefusedOnce, Sources, change}
use Rattle.operator.specs.declared.reply.Reply.{Reply}
use Rattle.operator.specs.declared.reply.Reply.TheVariants as reply
use Rattle.daemon.specs.Lines.{Fails, Gives, IsGiven}
use Rattle.daemon.specs.Texts.{Takes, TakesEach}
use Rattle.daemon.specs.declared.lines.Given.{Given}
use Rattle.daemon.specs.declared.lines.Given.TheVariants as given
use Rattle.daemon.specs.declared.talk.EndedConsole.{EndedConsole}
use Rattle.daemon.specs.declared.talk.ConsoleEnd.{ConsoleEnd}
use Rattle.daemon.specs.declared.talk.ConsoleEnd.TheVariants.{Done, InputFailed, OutputFailed}

-- Where a conversation stands: the input, the operations that the loader has published, the port's
-- asker and seat, whether a refresh is due, and how many events count.
pub record Place (Input : Type 0) : Type 0 where
  pub input : Input
  pub operations : List LoaderOperation
  pub asker : AskerState
  pub due : Bool
  pub events : ℕ

abbrev pub place : {Input : Type 0} → Input → (operations : List LoaderOperation) → AskerState
    → (due : Bool) → (events : ℕ) → Place Input
place input operations asker due events = record {
  input = input;
  operations = operations;
  asker = asker;
  due = due;
  events = events;
}

-- ---- one line

-- what the operator's desk answers to a line: a refresh that is due is tried before
abbrev pub IsObeyedFrom : {Input : Type 0} → Sources → (interfaces : ℕ) → (before : Place Input)
    → (line : List ℕ) → Option Reply → (after : Place Input) → Type 0
IsObeyedFrom s interfaces before line answer after =
    (still : Bool) × (between : AskerState) × (counted : ℕ)
    × IsMadeUp s.offers s.took s.refuses before.due still before.asker between before.events counted
    × IsObeyed s interfaces
    (change before.operations after.operations between after.asker still after.due counted
    after.events) line answer

-- nothing changed but the input
abbrev pub HasRead : {Input : Type 0} → (before after : Place Input) → Type 0
HasRead before after = after ≡ record before { input = after.input }

-- the console is done if a line has no answer
abbrev pub reply_of : Option Reply → Result Reply ConsoleEnd
reply_of None = Err Done
reply_of (Some answer) = Ok answer

-- What was given is answered so: a line as the desk does, or that there was no memory for it; at
-- the end the console is done, and if the input can't be read, that failed.
abbrev pub IsReply : {Input : Type 0} → Sources → (interfaces : ℕ) → Given
    → (before : Place Input) → Result Reply ConsoleEnd → (after : Place Input) → Type 0
IsReply s interfaces (given.Line line) before outcome after =
    (answer : Option Reply) × IsObeyedFrom s interfaces before (string_bytes line) answer after
    × (outcome ≡ reply_of answer)
IsReply s interfaces given.Memory before outcome after =
    (outcome ≡ Ok reply.Memory) × HasRead before after
IsReply s interfaces given.End before outcome after = (outcome ≡ Err Done) × HasRead before after
IsReply s interfaces given.Failed before outcome after =
    (outcome ≡ Err InputFailed) × HasRead before after

-- the input gave something, and that is answered so
pub record IsReplied {Input : Type 0} (gives : Gives Input) (fails : Fails Input) (s : Sources)
    (interfaces : ℕ) (before : Place Input) (reply : Result Reply ConsoleEnd) (after : Place Input)
    : Type 0 where
  pub gave : Given
  pub is_given : IsGiven gives fails before.input gave after.input
  pub is_reply : IsReply s interfaces gave before reply after

-- ---- line by line

-- these are the answers to all that the input gave meanwhile, the latest first
abbrev pub HasAnswered : {Input : Type 0} → Gives Input → Fails Input → Sources → (interfaces : ℕ)
    → (start : Place Input) → List Reply → (now : Place Input) → Type 0
HasAnswered gives fails s interfaces start [] now = now ≡ start
HasAnswered {Input = Input} gives fails s interfaces start (answer ∷ earlier) now =
    (between : Place Input) × HasAnswered gives fails s interfaces start earlier between
    × IsReplied gives fails s interfaces between (Ok answer) now

-- The console ends: nothing is printed any more, since there is no answer; or an answer was to be
-- printed, and the output couldn't be written, and then that failed.
pub record IsOver {Input Output : Type 0} (gives : Gives Input) (fails : Fails Input)
    (unwritable : Fails Output) (s : Sources) (interfaces : ℕ) (before : Place Input) (old : Output)
    (console_end : ConsoleEnd) (after : Place Input) (new : Output) : Type 0 where
  pub how : (IsReplied gives fails s interfaces before (Err console_end) after × (new ≡ old))
      ⊎ ((console_end ≡ OutputFailed) × unwritable old new
      × ((answer : Reply) × IsReplied gives fails s interfaces before (Ok answer) after))

-- All that the input gave was answered in its order, until the console ended so. The output took
-- the answers' texts, in their order, and nothing else.
pub record HasTalked {Input Output : Type 0} (gives : Gives Input) (fails : Fails Input)
    (takes : Takes Output) (unwritable : Fails Output) (s : Sources) (interfaces : ℕ)
    (start : Place Input) (old : Output) (console_end : ConsoleEnd) (now : Place Input)
    (new : Output)
    : Type 0 where
  pub answers : List Reply
  pub between : Place Input
  pub printed : Output
  pub answered : HasAnswered gives fails s interfaces start answers between
  pub taken : TakesEach takes old answers printed
  pub over : IsOver gives fails unwritable s interfaces between printed console_end now new

-- ---- from the start

-- a turn for a Tick was taken, and just what it gave the router counts; or it was refused, and
-- nothing counts
abbrev pub IsTicked : Offers → Took → Refuses → (old new : AskerState) → (counted counts : ℕ)
    → Type 0
IsTicked offers took refuses old new counted counts =
    IsDone offers took refuses old new Tick counted counts
    ⊎ ((counts ≡ counted)
    × ((error : TurnError) × IsRefusedOnce offers refuses old new counted Tick error))

-- the first is a Tick's turn, and then line follows line
pub record Converses {Input Output : Type 0} (gives : Gives Input) (fails : Fails Input)
    (takes : Takes Output) (unwritable : Fails Output) (s : Sources) (interfaces : ℕ)
    (begun : Place Input) (old : Output) (console_end : ConsoleEnd) (now : Place Input)
    (new : Output)
    : Type 0 where
  pub asker : AskerState
  pub events : ℕ
  pub later : IsLater begun.asker asker
  pub ticked : IsTicked s.offers s.took s.refuses begun.asker asker begun.events events
  pub talked : HasTalked gives fails takes unwritable s interfaces
      (record begun { asker = asker; events = events }) old console_end now new

-- ---- how it ended

abbrev pub is_input_failed : ConsoleEnd → Bool
is_input_failed InputFailed = true
is_input_failed Done = false
is_input_failed OutputFailed = false

abbrev pub is_output_failed : ConsoleEnd → Bool
is_output_failed OutputFailed = true
is_output_failed Done = false
is_output_failed InputFailed = false

abbrev pub has_input_failed : EndedConsole → Bool
has_input_failed ended_console = is_input_failed ended_console.console_end

abbrev pub has_output_failed : EndedConsole → Bool
has_output_failed ended_console = is_output_failed ended_console.console_end
