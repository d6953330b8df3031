-- The lines of a test, word by word.
use Rattle.std.proofs.Common.{◌≡◌, ◌∙◌, ◌+◌, ◌<◌, ◌≤◌, ◌^◌, ℕ, List, [], ◌∷◌, ◌++◌, Option, Some}
use Rattle.std.proofs.Common.{None, ap, ap₂, arith, get_or, inl, inr, length, refl, subst}
use Rattle.std.proofs.Common.{codes, false, sym, take, true}
use Rattle.std.proofs.lemmas.Fmt.{decimal_injective}
use Rattle.std.proofs.lemmas.List.{length-map, length-take-le, take_all, take_more}
use Rattle.std.proofs.lemmas.Option.{slice_get-get_or, slice_get-map}
use Rattle.std.specs.Borrow.{Bor}
use Rattle.std.specs.Global.{Vec}
use Rattle.std.specs.Prelude.{option_map}
use Rattle.clap.specs.Faults.{fault_of, is_simple_and_free}
use Rattle.clap.specs.Matches.{found_of}
use Rattle.clap.specs.Simple.{App, HasMatchesOf}
use Rattle.clap.specs.Walk.{Row, Text, first_of, rows_of}
use Rattle.clap.specs.declared.parser.matches.ArgMatches.{ArgMatches}
use Rattle.hooktool_trials.specs.CommandLine.{ask}
use Rattle.hooktool_trials.specs.Questions.{HasNumber, HasQuestion}
use Rattle.hooktool_trials.specs.Steps.{AddsLine, AreLines, BeginsWith, HasOptions, IsLine, IsWrong}
use Rattle.hooktool_trials.specs.Steps.{SaysAsk, is_blank, views, words_of}
use Rattle.hooktool_trials.specs.Words.{IsNumber, OrElse}
use Rattle.hooktool_trials.specs.declared.requests.Question.{Question}
use Rattle.hooktool_trials.specs.declared.steps.LineError.{LineError}
use Rattle.hooktool_trials.specs.declared.steps.TestLine.{TestLine}

-- ---- what the line ask takes

pub free : (a : App) → a ≡ ask → is_simple_and_free a ≡ true
free a own = subst (λ (x : App). is_simple_and_free x ≡ true) (sym own) refl

pub taken : (a : App) (words : List Text) (m : ArgMatches) → a ≡ ask
    → fault_of a words ≡ [] → HasMatchesOf a words m → HasOptions words m
taken a words m own none has = (
  subst (λ (x : App). fault_of x words ≡ []) own none,
  subst (λ (x : App). HasMatchesOf x words m) own has,
)

pub asked : (words : List Text) (m : ArgMatches) (question : Question)
    → BeginsWith (codes "ask") words → HasOptions words m
    → HasQuestion (rows_of (found_of m)) question → SaysAsk words question
asked words m question begins taken is = record {
  named = begins;
  taken = taken.0;
  question_is = subst (λ (rows : List Row). HasQuestion rows question) (taken.1 refl).0 is;
}

-- ---- lines of one word to four

pub one_word : (words : List (Bor Text)) (d : Bor Text) (first : Text) → 1 ≤ length words
    → length words < 2 → (get_or words 0 d).now ≡ first → views words ≡ first ∷ []
one_word [] d first ge lt is = absurd (omega (arith, ge))
one_word (a ∷ []) d first ge lt is = ap (λ (x : Text). x ∷ []) is
one_word (a ∷ b ∷ rest) d first ge lt is = absurd (omega (arith, lt))

pub two_words : (words : List (Bor Text)) (d : Bor Text) (first second : Text) → 2 ≤ length words
    → length words < 3 → (get_or words 0 d).now ≡ first → (get_or words 1 d).now ≡ second
    → views words ≡ first ∷ second ∷ []
two_words [] d first second ge lt is also = absurd (omega (arith, ge))
two_words (a ∷ []) d first second ge lt is also = absurd (omega (arith, ge))
two_words (a ∷ b ∷ []) d first second ge lt is also =
    ap₂ (λ (x : Text) (y : Text). x ∷ y ∷ []) is also
two_words (a ∷ b ∷ c ∷ rest) d first second ge lt is also = absurd (omega (arith, lt))

pub three_words : (words : List (Bor Text)) (d : Bor Text) → 3 ≤ length words → length words < 4
    → (get_or words 0 d).now ∷ (get_or words 1 d).now ∷ (get_or words 2 d).now ∷ [] ≡ views words
three_words [] d ge lt = absurd (omega (arith, ge))
three_words (a ∷ []) d ge lt = absurd (omega (arith, ge))
three_words (a ∷ b ∷ []) d ge lt = absurd (omega (arith, ge))
three_words (a ∷ b ∷ c ∷ []) d ge lt = refl
three_words (a ∷ b ∷ c ∷ e ∷ rest) d ge lt = absurd (omega (arith, lt))

pub four_words : (words : List (Bor Text)) (d : Bor Text) (first third : Text) → 4 ≤ length words
    → length words < 5 → (get_or words 0 d).now ≡ first → (get_or words 2 d).now ≡ third
    → first ∷ (get_or words 1 d).now ∷ third ∷ (get_or words 3 d).now ∷ [] ≡ views words
four_words [] d first third ge lt is also = absurd (omega (arith, ge))
four_words (a ∷ []) d first third ge lt is also = absurd (omega (arith, ge))
four_words (a ∷ b ∷ []) d first third ge lt is also = absurd (omega (arith, ge))
four_words (a ∷ b ∷ c ∷ []) d first third ge lt is also = absurd (omega (arith, ge))
four_words (a ∷ b ∷ c ∷ e ∷ []) d first third ge lt is also =
    ap₂ (λ (x : Text) (y : Text). x ∷ b.now ∷ y ∷ e.now ∷ []) (sym is) (sym also)
four_words (a ∷ b ∷ c ∷ e ∷ f ∷ rest) d first third ge lt is also = absurd (omega (arith, lt))

-- ---- a number is the only one of its word

one_number : (found : Option Text) (least most usual n m : ℕ) → most < 2 ^ 64
    → OrElse found (n ≡ usual) (λ word. IsNumber least most word n)
    → OrElse found (m ≡ usual) (λ word. IsNumber least most word m) → n ≡ m
one_number None least most usual n m small is also = is ∙ sym also
one_number (Some word) least most usual n m small is also =
    decimal_injective n m (omega (arith, is.2)) (omega (arith, also.2)) (sym is.0 ∙ also.0)

pub same_number : (rows : List Row) (name : Text) (usual least most n m : ℕ) → most < 2 ^ 64
    → HasNumber rows name usual least most n → HasNumber rows name usual least most m → n ≡ m
same_number rows name usual least most n m small is also =
    one_number (first_of name rows) least most usual n m small is also

-- ---- lines

one_blank : (number : ℕ) (before : List (List Text)) (words : List Text) (lines : List TestLine)
    → is_blank words ≡ true → AreLines number before lines
    → AreLines number (before ++ words ∷ []) lines
one_blank number [] words lines blank are = inl (blank, are)
one_blank number (first ∷ others) words lines blank (inl skipped) =
    inl (skipped.0, one_blank (number + 1) others words lines blank skipped.1)
one_blank number (first ∷ others) words lines blank (inr (line, rest, is, said, more)) =
    inr (line, rest, is, said, one_blank (number + 1) others words rest blank more)

one_line : (number : ℕ) (before : List (List Text)) (words : List Text) (lines : List TestLine)
    (line : TestLine) → IsLine (number + length before) words line → AreLines number before lines
    → AreLines number (before ++ words ∷ []) (lines ++ line ∷ [])
one_line number [] words lines line is are =
    let here : number + length {A = List Text} [] ≡ number = omega arith in
    inr (
      line,
      [],
      ap (λ (xs : List TestLine). xs ++ line ∷ []) are,
      subst (λ n. IsLine n words line) here is,
      refl,
    )
one_line number (first ∷ others) words lines line is (inl skipped) =
    let later : number + length (first ∷ others) ≡ (number + 1) + length others = omega arith in
    inl (
      skipped.0,
      one_line (number + 1) others words lines line
          (subst (λ n. IsLine n words line) later is) skipped.1,
    )
one_line number (first ∷ others) words lines line is (inr (head, rest, are, said, more)) =
    let later : number + length (first ∷ others) ≡ (number + 1) + length others = omega arith in
    inr (
      head,
      rest ++ line ∷ [],
      ap (λ (xs : List TestLine). xs ++ line ∷ []) are,
      said,
      one_line (number + 1) others words rest line (subst (λ n. IsLine n words line) later is) more,
    )

one_more : (number : ℕ) (before : List (List Text)) (words : List Text) (old new : List TestLine)
    → AddsLine (number + length before) words old new → AreLines number before old
    → AreLines number (before ++ words ∷ []) new
one_more number before words old new (inl (blank, same)) are =
    subst (λ (xs : List TestLine). AreLines number (before ++ words ∷ []) xs) (sym same)
    (one_blank number before words old blank are)
one_more number before words old new (inr (line, is, added)) are =
    subst (λ (xs : List TestLine). AreLines number (before ++ words ∷ []) xs) (sym added)
    (one_line number before words old line is are)

words_append : (lines : List (Vec (Bor Text))) (line : Vec (Bor Text))
    → words_of (lines ++ line ∷ []) ≡ words_of lines ++ views line.items ∷ []
words_append [] line = refl
words_append (first ∷ others) line =
    ap (λ (xs : List (List Text)). views first.items ∷ xs) (words_append others line)

words_length : (lines : List (Vec (Bor Text))) (i : ℕ) → i ≤ length lines
    → length (words_of (take i lines)) ≡ i
words_length lines i le = length-map (take i lines) (λ (line : Vec (Bor Text)). views line.items)
    ∙ length-take-le i lines le

pub lines_more : (lines : List (Vec (Bor Text))) (i : ℕ) (d : Vec (Bor Text))
    (old new : List TestLine) → i < length lines → AreLines 1 (words_of (take i lines)) old
    → AddsLine (i + 1) (views (get_or lines i d).items) old new
    → AreLines 1 (words_of (take (i + 1) lines)) new
lines_more lines i d old new lt are adds =
    let place : i + 1 ≡ 1 + length (words_of (take i lines)) =
    omega (arith, words_length lines i (omega arith)) in
    let more = one_more 1 (words_of (take i lines)) (views (get_or lines i d).items) old new
    (subst (λ n. AddsLine n (views (get_or lines i d).items) old new) place adds) are in
    subst (λ (ws : List (List Text)). AreLines 1 ws new)
    (sym (ap words_of (take_more lines i d lt)
    ∙ words_append (take i lines) (get_or lines i d))) more

pub lines_all : (lines : List (Vec (Bor Text))) (i : ℕ) (read : List TestLine) → length lines ≤ i
    → AreLines 1 (words_of (take i lines)) read → AreLines 1 (words_of lines) read
lines_all lines i read le are = subst
    (λ (xs : List (Vec (Bor Text))). AreLines 1 (words_of xs) read) (take_all i lines le) are

-- the line at this place is wrong
pub wrong_at : (lines : List (Vec (Bor Text))) (i : ℕ) (d : Vec (Bor Text)) (error : LineError)
    → i < length lines → is_blank (views (get_or lines i d).items) ≡ false
    → IsWrong (words_of lines) (record { number = i + 1; error = error })
wrong_at lines i d error lt filled =
    let view : Vec (Bor Text) → List Text = λ line. views line.items in (
      i,
      view (get_or lines i d),
      slice_get-map view lines i ∙ ap (option_map view) (slice_get-get_or lines i d lt),
      (refl, filled),
    )
