-- Which turns a line of the console makes, each served as a worker serves one.
use Rattle.std.specs.Prelude.{◌≡◌, ℕ, ◌≤◌, Bool, true, false, List, Option, Some, None, MatchOption}
use mathlib.Core.List.{IsPrefix}
use Rattle.hooks.specs.declared.operation.LoaderOperation.{LoaderOperation}
use Rattle.worker.specs.Lives.{Senses, Standing}
use Rattle.turns.specs.declared.work.Work.{Work}
use Rattle.turns.specs.declared.work.Work.TheVariants as work
use Rattle.console.specs.Commands.{LineAsks}
use Rattle.console.specs.declared.command.Command.{Command}
use Rattle.console.specs.declared.command.Command.TheVariants as commands
use Rattle.operator.specs.Answers.{IsServed, learnt}
use Rattle.operator.specs.declared.reply.Reply.{Reply}
use Rattle.operator.specs.declared.reply.Reply.TheVariants as reply

-- ---- of which work there is a turn

-- once the programs were changed, of a refresh
abbrev pub turn_after : Reply → Option Work
turn_after (reply.Attached hook bound) = Some work.Refresh
turn_after (reply.Detached hook) = Some work.Refresh
turn_after other = None

-- an announcement and a withdrawal have a turn of their own; what is shown has none
abbrev pub turn_of : Command → Reply → Option Work
turn_of (commands.Attach path) answer = turn_after answer
turn_of (commands.Detach hook) answer = turn_after answer
turn_of (commands.Add external) answer = Some (work.Add external)
turn_of (commands.Withdraw prefix) answer = Some (work.Withdraw prefix)
turn_of commands.Table answer = None
turn_of commands.Neighbors answer = None
turn_of commands.Counters answer = None
turn_of commands.Quit answer = None

-- before a line, of a refresh, if that is due
abbrev pub turn_due : Bool → Option Work
turn_due true = Some work.Refresh
turn_due false = None

-- ---- how it is served

-- a turn for this work was served, by a port that knew all that it had known, and perhaps a change
-- of the programs too
abbrev pub IsServedThen : {Transport Clock : Type 0} → Senses Transport Clock → Work
    → (before after : Standing Transport Clock) → Type 0
IsServedThen senses w before after =
    (knew : List LoaderOperation) × IsPrefix before.asker.known knew
    × IsServed senses w (record before { asker = learnt before.asker knew }) after

-- there was no turn: the clock wasn't looked at, nothing was sent, the port learnt nothing, and the
-- router got no event; what the seat did, the answer tells
abbrev pub IsWithoutTurn : {Transport Clock : Type 0}
    → (before after : Standing Transport Clock) → Type 0
IsWithoutTurn before after =
    (after ≡ record before { asker = after.asker })
    × (after.asker.known ≡ before.asker.known)

-- so was the turn that there is
abbrev pub IsTurnServed : {Transport Clock : Type 0} → Senses Transport Clock → Option Work
    → (before after : Standing Transport Clock) → Type 0
IsTurnServed senses turn before after =
    MatchOption turn (IsWithoutTurn before after) (λ w. IsServedThen senses w before after)

-- the turn of a command was; that which is answered by nothing has none
abbrev pub IsCommandServed : {Transport Clock : Type 0} → Senses Transport Clock → Command
    → Option Reply → (before after : Standing Transport Clock) → Type 0
IsCommandServed senses command None before after = IsWithoutTurn before after
IsCommandServed senses command (Some answer) before after =
    IsTurnServed senses (turn_of command answer) before after

-- the turn of the command that a line asks for was; a line that is no command, that there was no
-- memory for, or that ends the console, has none
abbrev pub IsLineServed : {Transport Clock : Type 0} → Senses Transport Clock → (line : List ℕ)
    → Option Reply → (before after : Standing Transport Clock) → Type 0
IsLineServed senses line None before after = IsWithoutTurn before after
IsLineServed senses line (Some reply.Unknown) before after = IsWithoutTurn before after
IsLineServed senses line (Some reply.Memory) before after = IsWithoutTurn before after
IsLineServed senses line (Some answer) before after =
    (command : Command) × LineAsks line command
    × IsTurnServed senses (turn_of command answer) before after

-- first the turn of a refresh that was due, and then that of the line
abbrev pub AreServed : {Transport Clock : Type 0} → Senses Transport Clock → (due : Bool)
    → (line : List ℕ) → Option Reply → (before after : Standing Transport Clock) → Type 0
AreServed {Transport = Transport} {Clock = Clock} senses due line answer before after =
    (between : Standing Transport Clock) × IsTurnServed senses (turn_due due) before between
    × IsLineServed senses line answer between after

-- ---- by a transport that counts its faults

-- A transport never counts fewer faults than before. If it counts no more, this is so.
abbrev pub IsUnlessFault : {Transport Clock : Type 0} → (faults : Transport → ℕ)
    → (Is : (before after : Standing Transport Clock) → Type 0)
    → (before after : Standing Transport Clock) → Type 0
IsUnlessFault faults Is before after =
    (faults before.transport ≤ faults after.transport)
    × (faults after.transport ≡ faults before.transport → Is before after)
