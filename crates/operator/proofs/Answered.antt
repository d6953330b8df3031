-- Answers of lines, and an answer by another name.
use Rattle.std.proofs.Common.{◌≡◌, ℕ, List, Option, None, Some, Result, Ok, Err, String, Global}
use Rattle.std.proofs.Common.{inr, sym, subst}
use Rattle.std.specs.Prelude.{IfOk, MatchResult, OnErr, string_bytes}
use Rattle.console.specs.declared.command.Command.{Command}
use Rattle.console.specs.declared.command.Command.TheVariants as commands
use Rattle.console.specs.Commands.{LineAsks}
use Rattle.operator.specs.declared.programs.AttachError.{AttachError}
use Rattle.operator.specs.Answers.{AreLines, Change, IsAnswerTo, IsAnswerToAttach}
use Rattle.operator.specs.Answers.{IsAnswerToCounters, IsCarriedOut, IsObeyed, IsUntouched, Sources}
use Rattle.operator.specs.Reasons.{IsReason, reason_text}
use Rattle.operator.specs.Shown.{HasReadSome, IsCountersText}
use Rattle.operator.specs.declared.reply.Reply.{Reply}
use Rattle.operator.specs.declared.reply.Reply.TheVariants as reply

-- lines that were made, or that memory was refused for, as they are answered
pub made : {E : Type 0} (IsText : List ℕ → Type 0) (lines : Result (String Global) E)
    (answer : Reply) → IfOk lines (λ text. IsText (string_bytes text))
    → MatchResult lines (λ text. answer ≡ reply.Lines text) (λ _. answer ≡ reply.Memory)
    → AreLines IsText answer
made IsText (Ok text) answer is told = subst (AreLines IsText) (sym told) is
made IsText (Err refused) answer is told = subst (AreLines IsText) (sym told) tt

-- the counters that were read, or those of them that had been read when memory was refused
pub read_out : {E : Type 0} (c : Change) (lines : Result (String Global) E) (answer : Reply)
    → IfOk lines (λ text. IsCountersText c.found.seat c.left.seat (string_bytes text))
    → OnErr lines (HasReadSome c.found.seat c.left.seat)
    → MatchResult lines (λ text. answer ≡ reply.Lines text) (λ _. answer ≡ reply.Memory)
    → IsAnswerToCounters c answer
read_out c (Ok text) answer is some told = subst (IsAnswerToCounters c) (sym told) is
read_out c (Err refused) answer is some told = subst (IsAnswerToCounters c) (sym told) some

-- a command and its answer, and what they changed, by other names
pub moved : (s : Sources) (interfaces : ℕ) (c d : Change) (command same : Command)
    (answer told : Reply) → c ≡ d → command ≡ same → answer ≡ told
    → IsAnswerTo s interfaces d same told → IsAnswerTo s interfaces c command answer
moved s interfaces c d command same answer told is_change is_same is_told is =
    let C = subst (λ (x : Command). IsAnswerTo s interfaces d x told) (sym is_same) is in
    let T = subst (λ (x : Reply). IsAnswerTo s interfaces d command x) (sym is_told) C in
    subst (λ (x : Change). IsAnswerTo s interfaces x command answer) (sym is_change) T

-- a line that was obeyed at a desk that is as it was
pub obeyed_from : (s : Sources) (n m : ℕ) (c d : Change) (line : List ℕ) (answer : Option Reply)
    → m ≡ n → d ≡ c → IsObeyed s m d line answer → IsObeyed s n c line answer
obeyed_from s n m c d line answer same_n same is =
    subst (λ (x : Change). IsObeyed s n x line answer) same
    (subst (λ (x : ℕ). IsObeyed s x d line answer) same_n is)

-- the line of a reason, or want of memory for it
pub told_why : {E : Type 0} (s : Sources) (c : Change) (path : List ℕ) (e : AttachError)
    (lines : Result (String Global) E) (answer : Reply) → IsUntouched c
    → IsReason s.holds s.unreadable path e
    → IfOk lines (λ text. string_bytes text ≡ reason_text path e)
    → MatchResult lines (λ text. answer ≡ reply.Lines text) (λ _. answer ≡ reply.Memory)
    → IsAnswerToAttach s c path answer
told_why s c path e (Ok text) answer same why says told =
    subst (IsAnswerToAttach s c path) (sym told) (same, (e, why, says))
told_why s c path e (Err refused) answer same why says told =
    subst (IsAnswerToAttach s c path) (sym told) same

-- no command is answered that it is none
pub never_unknown : (s : Sources) (n : ℕ) (c : Change) (command : Command)
    → IsAnswerTo s n c command reply.Unknown → ⊥
never_unknown s n c (commands.Attach path) is = is
never_unknown s n c (commands.Detach hook) is = is
never_unknown s n c (commands.Add external) is = is.1
never_unknown s n c (commands.Withdraw prefix) is = is.1
never_unknown s n c commands.Table is = is.1
never_unknown s n c commands.Neighbors is = is.1
never_unknown s n c commands.Counters is = is.1
never_unknown s n c commands.Quit is = is

-- what was carried out was obeyed
pub obeyed : (s : Sources) (n : ℕ) (c : Change) (line : List ℕ) (command : Command)
    (answer : Option Reply) → LineAsks line command → IsCarriedOut s n c command answer
    → IsObeyed s n c line answer
obeyed s n c line command None asks is = (command, asks, is)
obeyed s n c line command (Some reply.Unknown) asks is = absurd (never_unknown s n c command is)
obeyed s n c line command (Some reply.Memory) asks is = inr (command, asks, is)
obeyed s n c line command (Some (reply.Attached hook bound)) asks is = (command, asks, is)
obeyed s n c line command (Some (reply.Detached hook)) asks is = (command, asks, is)
obeyed s n c line command (Some reply.Originated) asks is = (command, asks, is)
obeyed s n c line command (Some reply.Withheld) asks is = (command, asks, is)
obeyed s n c line command (Some reply.Withdrawn) asks is = (command, asks, is)
obeyed s n c line command (Some (reply.Refused number)) asks is = (command, asks, is)
obeyed s n c line command (Some (reply.Lines lines)) asks is = (command, asks, is)
