-- The answer to a question is a run's word or the default.
use Rattle.std.proofs.Common.{◌≡◌, ℕ, List, [], Option, Some, None, MatchOption, slice_range, inl}
use Rattle.std.proofs.Common.{inr, sym, ◌∙◌, subst}
use Rattle.isa.specs.declared.hook.Hook.{Hook}
use Rattle.isa.specs.Hooks.{hook_number}
use Rattle.machine.specs.Given.{Given}
use Rattle.machine.specs.Label.{Label}
use Rattle.maps.specs.Words.{SeatView}
use Rattle.machine.specs.Memory.{number_of}
use Rattle.hooks.specs.declared.operation.LoaderOperation.{LoaderOperation}
use Rattle.hooks.specs.Operations.{Program, RunsTo, leaves, default_of, OperationsAnswer}
use Rattle.hooks.specs.Answered.{IsAnswered}
use Rattle.hooks.specs.Questions.{IsAnswer}
use Rattle.hooks.proofs.Leaves.{AtHook, at-leaves, number-injective}

answered_at : (hook : Hook) (i : Given) (o : Option Program) (labels : List Label) (word : ℕ)
    → AtHook hook o → MatchOption o ((labels ≡ []) × (word ≡ default_of hook i))
    (λ program. RunsTo program i labels word) → IsAnswer hook i word
answered_at hook i (Some p) labels word at runs = inl (p, labels, at, runs)
answered_at hook i None labels word at h = inr h.1

pub answered : (hook : Hook) (ops : List LoaderOperation) (i : Given) (labels : List Label)
    (word : ℕ) → number_of (slice_range i.context 0 4) ≡ hook_number hook
    → OperationsAnswer ops i labels word → IsAnswer hook i word
answered hook ops i labels word is h =
    let found : IsAnswer h.0 i word =
    answered_at h.0 i (leaves h.0 ops) labels word (at-leaves h.0 ops) h.2 in
    subst (λ k. IsAnswer k i word) (number-injective h.0 hook (sym h.1 ∙ is)) found

-- equal inputs have equal answers
pub same_answer : (before now : List LoaderOperation) (old new : SeatView) (i j : Given) (v w : ℕ)
    → i ≡ j → v ≡ w → IsAnswered before now old new i v → IsAnswered before now old new j w
same_answer before now old new i j v w inputs words is =
    subst (λ (n : ℕ). IsAnswered before now old new j n) words
    (subst (λ (k : Given). IsAnswered before now old new k v) inputs is)
