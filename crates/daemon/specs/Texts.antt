-- What the console's output takes: texts.
use Rattle.std.specs.Prelude.{◌≡◌, ℕ, List, [], ◌∷◌}
use Rattle.operator.specs.Texts.{reply_text}
use Rattle.operator.specs.declared.reply.Reply.{Reply}
use Rattle.daemon.specs.Lines.{Fails}

-- output before it took a text, and after that
abbrev pub Takes : (Output : Type 0) → Type 1
Takes Output = (before : Output) → (text : List ℕ) → (after : Output) → Type 0

-- the output took the text of each of these answers, the latest first, and nothing else
abbrev pub TakesEach : {Output : Type 0} → Takes Output → (before : Output) → List Reply
    → (after : Output) → Type 0
TakesEach takes before [] after = after ≡ before
TakesEach {Output = Output} takes before (answer ∷ earlier) after =
    (between : Output) × TakesEach takes before earlier between
    × takes between (reply_text answer) after

-- Output couldn't be written. Of any output only a call that failed can tell that.
abbrev pub HasFailed : {Output : Type 0} → Fails Output → Type 0
HasFailed {Output = Output} fails = (before : Output) × (after : Output) × fails before after
