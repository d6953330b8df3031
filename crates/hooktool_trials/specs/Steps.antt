-- What the lines of a test say.
use Rattle.std.specs.Prelude.{◌≡◌, ◌⊎◌, ◌+◌, ◌==◌, ◌≤◌, ◌<◌, ◌^◌, ℕ, List, [], ◌∷◌}
use Rattle.std.specs.Prelude.{◌++◌, Bool, true, false, codes, decimal}
use Rattle.std.specs.Prelude.{Some, map, slice_get}
use Rattle.std.specs.Borrow.{Bor}
use Rattle.std.specs.Global.{Vec}
use Rattle.clap.specs.Faults.{fault_of}
use Rattle.clap.specs.Simple.{HasMatchesOf, matches_of}
use Rattle.clap.specs.Walk.{Text}
use Rattle.clap.specs.declared.parser.matches.ArgMatches.{ArgMatches}
use Rattle.hooktool_trials.specs.CommandLine.{ask}
use Rattle.hooktool_trials.specs.Questions.{HasQuestion}
use Rattle.hooktool_trials.specs.declared.requests.Question.{Question}
use Rattle.hooktool_trials.specs.declared.steps.ExpectedAnswer.{ExpectedAnswer}
use Rattle.hooktool_trials.specs.declared.steps.ExpectedAnswer.TheVariants as answers
use Rattle.hooktool_trials.specs.declared.steps.PlainStep.{PlainStep}
use Rattle.hooktool_trials.specs.declared.steps.PlainStep.TheVariants as plain
use Rattle.hooktool_trials.specs.declared.steps.TestLine.{TestLine}
use Rattle.hooktool_trials.specs.declared.steps.WrongLine.{WrongLine}
use Rattle.hooktool_trials.specs.declared.steps.Step.{Step}
use Rattle.hooktool_trials.specs.declared.steps.Step.TheVariants as steps

-- the words behind references
abbrev pub views : List (Bor Text) → List Text
views words = map (λ (w : Bor Text). w.now) words

-- the words of each line
abbrev pub words_of : List (Vec (Bor Text)) → List (List Text)
words_of lines = map (λ (line : Vec (Bor Text)). views line.items) lines

-- The words are what try prints of the answer.
abbrev pub SaysAnswer : List Text → ExpectedAnswer → Type 0
SaysAnswer words (answers.Number n) = (words ≡ codes "answer" ∷ decimal n ∷ []) × (n < 2 ^ 64)
SaysAnswer words (answers.Metric n) =
    (words ≡ codes "metric" ∷ decimal n ∷ []) × (n ≤ 16777214)
SaysAnswer words answers.Withheld = words ≡ codes "withheld" ∷ []
SaysAnswer words (answers.Tag n) = (words ≡ codes "tag" ∷ decimal n ∷ []) × (n ≤ 4294967295)
SaysAnswer words answers.Installed = words ≡ codes "installed" ∷ []
SaysAnswer words answers.NotInstalled = words ≡ codes "not" ∷ codes "installed" ∷ []

-- The line ask takes the words, and finds this in them.
abbrev pub HasOptions : List Text → ArgMatches → Type 0
HasOptions words matches = (fault_of ask words ≡ []) × HasMatchesOf ask words matches

-- the first word is this one
abbrev pub BeginsWith : Text → List Text → Type 0
BeginsWith name [] = ⊥
BeginsWith name (first ∷ others) = first ≡ name

-- The words are ask and the options of a question.
pub record SaysAsk (words : List Text) (question : Question) : Type 0 where
  pub named : BeginsWith (codes "ask") words
  pub taken : fault_of ask words ≡ []
  pub question_is : HasQuestion (matches_of ask words) question

-- The words say this step.
abbrev pub SaysPlain : List Text → PlainStep → Type 0
SaysPlain words (plain.Program path) = words ≡ codes "program" ∷ path.now ∷ []
SaysPlain words (plain.Packets path interface) =
    (words ≡ codes "packets" ∷ path.now ∷ codes "interface" ∷ decimal interface ∷ [])
    × (interface ≤ 63)
SaysPlain words (plain.Answers answer) = SaysAnswer words answer
SaysPlain words (plain.Counter index number) =
    (words ≡ codes "counter" ∷ decimal index ∷ decimal number ∷ []) × (index ≤ 255)
SaysPlain words (plain.Cell index number) =
    (words ≡ codes "cell" ∷ decimal index ∷ decimal number ∷ []) × (index ≤ 63)

abbrev pub Says : List Text → Step → Type 0
Says words (steps.Plain step) = SaysPlain words step
Says words (steps.Ask question) = SaysAsk words question

-- a word that begins a comment, by #
abbrev pub is_mark : Text → Bool
is_mark [] = false
is_mark (first ∷ rest) = first == 35

-- a line without a step: no word, or a comment
abbrev pub is_blank : List Text → Bool
is_blank [] = true
is_blank (first ∷ others) = is_mark first

-- The line of this number and these words says its step.
pub record IsLine (number : ℕ) (words : List Text) (line : TestLine) : Type 0 where
  pub filled : is_blank words ≡ false
  pub number_is : line.number ≡ number
  pub words_are : views line.words.now ≡ words
  pub step : Says words line.step

-- The line is added that the words say, if they aren't blank.
abbrev pub AddsLine : (number : ℕ) → List Text → List TestLine → List TestLine → Type 0
AddsLine number words old new = ((is_blank words ≡ true) × (new ≡ old))
    ⊎ ((line : TestLine) × IsLine number words line × (new ≡ old ++ line ∷ []))

-- The lines are those of a text that aren't blank, in their order, by their numbers from this on.
abbrev pub AreLines : (number : ℕ) → List (List Text) → List TestLine → Type 0
AreLines number [] lines = lines ≡ []
AreLines number (words ∷ others) lines =
    ((is_blank words ≡ true) × AreLines (number + 1) others lines)
    ⊎ ((first : TestLine) × (rest : List TestLine) × (lines ≡ first ∷ rest)
    × IsLine number words first × AreLines (number + 1) others rest)

-- A line that is wrong is told by its number. It isn't blank.
abbrev pub IsWrongLine : (number : ℕ) → List Text → WrongLine → Type 0
IsWrongLine number words wrong = (wrong.number ≡ number) × (is_blank words ≡ false)

-- One of the lines is wrong, by its number from 1 on.
abbrev pub IsWrong : List (List Text) → WrongLine → Type 0
IsWrong lines wrong = (at : ℕ) × (line : List Text) × (slice_get lines at ≡ Some line)
    × IsWrongLine (at + 1) line wrong
