-- The turns of a line, put together.
use Rattle.std.proofs.Common.{◌≡◌, ℕ, ◌<◌, ◌≤◌, Bool, true, false, List, Option, None, Some}
use Rattle.std.proofs.Common.{Result, Ok, Err, String, Global, ap, refl, sym, subst, arith}
use Rattle.std.specs.Prelude.{MatchResult, OnErr, OnOk}
use mathlib.Core.List.{IsPrefix}
use Rattle.hooks.proofs.Fronts.{prefix_self}
use Rattle.turns.specs.Askers.{AskerState}
use Rattle.worker.specs.Lives.{Senses, Standing, standing}
use Rattle.turns.specs.declared.work.Work.{Work}
use Rattle.turns.specs.declared.work.Work.TheVariants as work
use Rattle.console.specs.Commands.{LineAsks}
use Rattle.console.specs.declared.command.Command.{Command}
use Rattle.console.specs.declared.command.Command.TheVariants as commands
use Rattle.operator.specs.Answers.{IsAnswerTo, IsCarriedOut, IsServed, Change, Sources, learnt}
use Rattle.operator.specs.Served.{AreServed, IsCommandServed, IsLineServed, IsServedThen}
use Rattle.operator.specs.Served.{IsTurnServed, IsUnlessFault, IsWithoutTurn, turn_after}
use Rattle.operator.specs.Served.{turn_due, turn_of}
use Rattle.operator.specs.declared.reply.Reply.{Reply}
use Rattle.operator.specs.declared.reply.Reply.TheVariants as reply
use Rattle.operator.proofs.Answered.{never_unknown}

-- whether it failed or not, a transport counts no fewer faults
pub never_fewer : {Transport X E : Type 0} (faults : Transport → ℕ) (before after : Transport)
    (outcome : Result X E) → OnOk outcome (faults after ≡ faults before)
    → OnErr outcome (faults before < faults after) → faults before ≤ faults after
never_fewer faults before after (Ok x) fine failed = omega (arith, fine)
never_fewer faults before after (Err error) fine failed = omega (arith, failed)

module _ {Transport Clock : Type 0} (faults : Transport → ℕ) (senses : Senses Transport Clock) where
  -- a turn that was served, by a port that since learnt nothing and gave no event
  pub served_still : (w : Work) (before : Standing Transport Clock) (transport : Transport)
      (clock : Clock) (then asker : AskerState) (between events : ℕ) → asker ≡ then
      → events ≡ between → faults before.transport ≤ faults transport
      → (faults transport ≡ faults before.transport
      → IsServed senses w before (standing transport clock then between))
      → IsUnlessFault faults (IsServed senses w) before
      (standing transport clock asker events)
  served_still w before transport clock then asker between events kept same grown is = (
    grown,
    λ fine. subst (λ s. IsServed senses w before (standing transport clock s events)) (sym kept)
        (subst (λ n. IsServed senses w before (standing transport clock then n)) (sym same)
        (is fine)),
  )

  -- a port that learnt nothing before knows what it had known
  pub as_known : (w : Work) (before after : Standing Transport Clock)
      → IsUnlessFault faults (IsServed senses w) before after
      → IsUnlessFault faults (IsTurnServed senses (Some w)) before after
  as_known w before after is = (
    is.0,
    λ fine.
        (before.asker.known, prefix_self before.asker.known, is.1 fine),
  )

  -- if there is no turn
  pub unserved_still : (now : Standing Transport Clock)
      → IsUnlessFault faults (IsTurnServed senses None) now now
  unserved_still now = (omega arith, λ fine. (refl, refl))

  -- nor if the port's seat read something
  pub read_still : (transport : Transport) (clock : Clock) (old new : AskerState)
      (before events : ℕ) → new.known ≡ old.known → events ≡ before
      → IsUnlessFault faults (IsTurnServed senses None)
      (standing transport clock old before) (standing transport clock new events)
  read_still transport clock old new before events known same =
      (omega arith, λ fine. (ap (λ n. standing transport clock new n) same, known))

  -- nor if lines were made of an answer, or there was no memory for them
  pub lines_served : {E : Type 0} (lines : Result (String Global) E) (answer : Reply)
      (now : Standing Transport Clock)
      → MatchResult lines (λ text. answer ≡ reply.Lines text) (λ _. answer ≡ reply.Memory)
      → IsUnlessFault faults (IsTurnServed senses (turn_after answer)) now now
  lines_served (Ok text) answer now is =
      subst (λ t. IsUnlessFault faults (IsTurnServed senses (turn_after t)) now now) (sym is)
      (unserved_still now)
  lines_served (Err error) answer now is =
      subst (λ t. IsUnlessFault faults (IsTurnServed senses (turn_after t)) now now) (sym is)
      (unserved_still now)

  -- the turn of a command by other names
  pub served_moved : (command same : Command) (answer told : Reply)
      (before after other : Standing Transport Clock) → after ≡ other → command ≡ same
      → answer ≡ told
      → IsUnlessFault faults (IsTurnServed senses (turn_of same told)) before other
      → IsUnlessFault faults (IsTurnServed senses (turn_of command answer)) before after
  served_moved command same answer told before after other is_after is_same is_told is =
      subst (λ a. IsUnlessFault faults (IsTurnServed senses (turn_of command answer)) before a)
      (sym is_after)
      (subst (λ c. IsUnlessFault faults (IsTurnServed senses (turn_of c answer)) before other)
      (sym is_same)
      (subst (λ t. IsUnlessFault faults (IsTurnServed senses (turn_of same t)) before other)
      (sym is_told) is))

  -- a refresh that was due, or none
  pub due_served : (due : Bool) (before after : Standing Transport Clock) → due ≡ true
      → IsUnlessFault faults (IsServed senses work.Refresh) before after
      → IsUnlessFault faults (IsTurnServed senses (turn_due due)) before after
  due_served due before after is served =
      subst (λ d. IsUnlessFault faults (IsTurnServed senses (turn_due d)) before after) (sym is)
      (as_known work.Refresh before after served)

  pub none_due : (due : Bool) (now : Standing Transport Clock) → due ≡ false
      → IsUnlessFault faults (IsTurnServed senses (turn_due due)) now now
  none_due due now is =
      subst (λ d. IsUnlessFault faults (IsTurnServed senses (turn_due d)) now now) (sym is)
      (unserved_still now)

  -- what is answered out of memory had no turn
  no_turn : (s : Sources) (n : ℕ) (c : Change) (command : Command)
      (before after : Standing Transport Clock) → IsAnswerTo s n c command reply.Memory
      → IsTurnServed senses (turn_of command reply.Memory) before after
      → IsWithoutTurn before after
  no_turn s n c (commands.Attach path) before after is served = served
  no_turn s n c (commands.Detach hook) before after is served = served
  no_turn s n c (commands.Add external) before after is served = absurd is.1
  no_turn s n c (commands.Withdraw prefix) before after is served = absurd is.1
  no_turn s n c commands.Table before after is served = served
  no_turn s n c commands.Neighbors before after is served = served
  no_turn s n c commands.Counters before after is served = served
  no_turn s n c commands.Quit before after is served = absurd is

  -- the turn of a command that a line asks for is the line's
  line_turn : (s : Sources) (n : ℕ) (c : Change) (line : List ℕ) (command : Command)
      (answer : Option Reply) (before after : Standing Transport Clock) → LineAsks line command
      → IsCarriedOut s n c command answer → IsCommandServed senses command answer before after
      → IsLineServed senses line answer before after
  line_turn s n c line command None before after asks is served = served
  line_turn s n c line command (Some reply.Unknown) before after asks is served =
      absurd (never_unknown s n c command is)
  line_turn s n c line command (Some reply.Memory) before after asks is served =
      no_turn s n c command before after is served
  line_turn s n c line command (Some (reply.Attached hook bound)) before after asks is served =
      (command, asks, served)
  line_turn s n c line command (Some (reply.Detached hook)) before after asks is served =
      (command, asks, served)
  line_turn s n c line command (Some reply.Originated) before after asks is served =
      (command, asks, served)
  line_turn s n c line command (Some reply.Withheld) before after asks is served =
      (command, asks, served)
  line_turn s n c line command (Some reply.Withdrawn) before after asks is served =
      (command, asks, served)
  line_turn s n c line command (Some (reply.Refused number)) before after asks is served =
      (command, asks, served)
  line_turn s n c line command (Some (reply.Lines lines)) before after asks is served =
      (command, asks, served)

  pub line_served : (s : Sources) (n : ℕ) (c : Change) (line : List ℕ) (command : Command)
      (answer : Option Reply) (before after : Standing Transport Clock) → LineAsks line command
      → IsCarriedOut s n c command answer
      → IsUnlessFault faults (IsCommandServed senses command answer) before after
      → IsUnlessFault faults (IsLineServed senses line answer) before after
  line_served s n c line command answer before after asks is served = (
    served.0,
    λ fine. line_turn s n c line command answer before after asks is (served.1 fine),
  )

  -- first what was due, and then the line
  pub both_served : (due : Bool) (line : List ℕ) (answer : Option Reply)
      (before between after : Standing Transport Clock)
      → IsUnlessFault faults (IsTurnServed senses (turn_due due)) before between
      → IsUnlessFault faults (IsLineServed senses line answer) between after
      → IsUnlessFault faults (AreServed senses due line answer) before after
  both_served due line answer before between after first later = (
    omega (arith, first.0, later.0),
    λ fine. (
      between,
      first.1 (omega (arith, first.0, later.0, fine)),
      later.1 (omega (arith, first.0, later.0, fine)),
    ),
  )

  -- a port that learnt of a change before
  pub served_then : (w : Work) (transport : Transport) (clock : Clock)
      (after : Standing Transport Clock) (found then : AskerState) (between events : ℕ)
      → IsPrefix found.known then.known → then ≡ learnt found then.known → between ≡ events
      → IsUnlessFault faults (IsServed senses w) (standing transport clock then between)
      after → IsUnlessFault faults (IsServedThen senses w)
      (standing transport clock found events) after
  served_then w transport clock after found then between events grown there same is = (
    is.0,
    λ fine. (
      then.known,
      grown,
      subst (λ s. IsServed senses w (standing transport clock s events) after) there
          (subst (λ n. IsServed senses w (standing transport clock then n) after) same
          (is.1 fine)),
    ),
  )
