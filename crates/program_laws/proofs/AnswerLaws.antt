-- What an answer at a hook depends on.
use Rattle.std.proofs.Common.{◌≡◌, ℕ, List, [], Option, Some, None, MatchOption, ◌++◌, sym}
use Rattle.std.proofs.Common.{◌∙◌, ap, subst, append-nil}
use Rattle.isa.specs.declared.hook.Hook.{Hook}
use Rattle.machine.specs.Given.{Given}
use Rattle.machine.specs.Input.{IsOfHook}
use Rattle.machine.specs.Label.{Label}
use Rattle.maps.specs.Words.{SeatView}
use Rattle.helpers.specs.Seats.{acts}
use Rattle.hooks.specs.declared.operation.LoaderOperation.{LoaderOperation}
use Rattle.hooks.specs.Answered.{IsAnswered}
use Rattle.hooks.specs.Operations.{Program, RunsTo, default_of, leaves}
use Rattle.hooks.proofs.Leaves.{number-injective}
use Rattle.program_laws.specs.Answers.{AnswersAreOfWhatStands}
use Rattle.program_laws.proofs.SeatLaws.{lawful_after}

without : (o : Option Program) (hook : Hook) (input : Given) (labels : List Label) (word : ℕ) → o
    ≡ None → MatchOption o ((labels ≡ []) × (word ≡ default_of hook input))
    (λ program. RunsTo program input labels word) → (labels ≡ [])
    × (word ≡ default_of hook input)
without None hook input labels word is found = found
without (Some program) hook input labels word is found = absurd cc

with_it : (o : Option Program) (p : Program) (hook : Hook) (input : Given) (labels : List Label)
    (word : ℕ) → o ≡ Some p → MatchOption o ((labels ≡ []) × (word ≡ default_of hook input))
    (λ program. RunsTo program input labels word) → RunsTo p input labels word
with_it None p hook input labels word is found = absurd cc
with_it (Some program) p hook input labels word is found =
    let same : program ≡ p = cc in
    subst (λ (q : Program). RunsTo q input labels word) same found

hook_is : (before now : List LoaderOperation) (old new : SeatView) (hook : Hook) (input : Given)
    (word : ℕ) (a : IsAnswered before now old new input word) → IsOfHook hook input → a.answers.0
    ≡ hook
hook_is before now old new hook input word a of_hook =
    number-injective a.answers.0 hook (sym a.answers.1 ∙ of_hook)

grown_list : (before now : List LoaderOperation) (old new : SeatView) (input : Given) (word : ℕ)
    (a : IsAnswered before now old new input word) → new.accesses ≡ old.accesses ++ acts a.labels
grown_list before now old new input word a = ap (λ (s : SeatView). s.accesses) a.made.grown

by_default : (before now : List LoaderOperation) (old new : SeatView) (hook : Hook) (input : Given)
    (word : ℕ) → IsAnswered before now old new input word → IsOfHook hook input → leaves hook now
    ≡ None → (word ≡ default_of hook input) × (new.accesses ≡ old.accesses)
by_default before now old new hook input word a of_hook none =
    let same = hook_is before now old new hook input word a of_hook in
    let found : (a.labels ≡ []) × (word ≡ default_of a.answers.0 input) =
    without (leaves a.answers.0 now) a.answers.0 input a.labels word
    (ap (λ k. leaves k now) same ∙ none) a.answers.2 in (
      found.1 ∙ ap (λ k. default_of k input) same,
      grown_list before now old new input word a
          ∙ ap (λ l. old.accesses ++ acts l) found.0 ∙ append-nil old.accesses,
    )

by_program : (before now : List LoaderOperation) (old new : SeatView) (hook : Hook) (input : Given)
    (word : ℕ) (p : Program) → IsAnswered before now old new input word → IsOfHook hook input
    → leaves hook now ≡ Some p → (labels : List Label) × RunsTo p input labels word
    × (new.accesses ≡ old.accesses ++ acts labels)
by_program before now old new hook input word p a of_hook some =
    let same = hook_is before now old new hook input word a of_hook in
    let found : RunsTo p input a.labels word =
    with_it (leaves a.answers.0 now) p a.answers.0 input a.labels word
    (ap (λ k. leaves k now) same ∙ some) a.answers.2 in
    (a.labels, found, grown_list before now old new input word a)

pub of_what_stands : AnswersAreOfWhatStands
of_what_stands = record {
  default = by_default;
  program = by_program;
  known = λ before now old new input word a. a.begins;
  lawful = λ before now old new input word a was. lawful_after old new a.labels a.made was;
}
