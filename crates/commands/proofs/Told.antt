-- What is told of words that ask for nothing.
use Rattle.std.proofs.Common.{◌≡◌, ◌⊎◌, ◌∙◌, ap, refl, inl, inr, List, ℕ}
use Rattle.clap.specs.Simple.{App}
use Rattle.clap.specs.Values.{kind_of}
use Rattle.clap.specs.declared.error.Error.{Error}
use Rattle.clap.specs.declared.error.kind.ErrorKind.{ErrorKind}
use Rattle.clap.specs.declared.error.kind.ErrorKind.TheVariants as kinds
use Rattle.commands.specs.Requests.{IsRefusal}
use Rattle.commands.specs.Endings.{IsFaultOfWords}
use Rattle.commands.specs.Statuses.{fault_of_kind_of_words, fault_of_words}
use Rattle.commands.specs.declared.fault.CommandError.{CommandError}
use Rattle.commands.specs.declared.fault.CommandError.TheVariants as faults

-- clap's own text is told, or want of memory
text_or_memory : (kind : ErrorKind) (error : Error)
    → (fault_of_kind_of_words kind error ≡ faults.Memory)
    ⊎ (fault_of_kind_of_words kind error ≡ faults.Usage error)
text_or_memory kinds.InvalidValue error = inr refl
text_or_memory kinds.UnknownArgument error = inr refl
text_or_memory kinds.InvalidSubcommand error = inr refl
text_or_memory kinds.NoEquals error = inr refl
text_or_memory kinds.ValueValidation error = inr refl
text_or_memory kinds.TooManyValues error = inr refl
text_or_memory kinds.TooFewValues error = inr refl
text_or_memory kinds.WrongNumberOfValues error = inr refl
text_or_memory kinds.ArgumentConflict error = inr refl
text_or_memory kinds.MissingRequiredArgument error = inr refl
text_or_memory kinds.MissingSubcommand error = inr refl
text_or_memory kinds.DisplayHelp error = inr refl
text_or_memory kinds.DisplayHelpOnMissingArgumentOrSubcommand error = inr refl
text_or_memory kinds.DisplayVersion error = inr refl
text_or_memory kinds.Io error = inr refl
text_or_memory kinds.Format error = inr refl
text_or_memory kinds.OutOfMemory error = inl refl

pub told : (line : App) (words : List (List ℕ)) (error : Error) (fault : CommandError)
    → IsRefusal line words error → fault ≡ fault_of_words error → IsFaultOfWords line words fault
told line words error fault refusal is = elim refusal [
  | inl memory ↦ inl (is ∙ ap (λ (k : ErrorKind). fault_of_kind_of_words k error) memory)
  | inr mistake ↦ elim (text_or_memory (kind_of error) error) [
    | inl memory ↦ inl (is ∙ memory)
    | inr usage ↦ inr (error, mistake, is ∙ usage)
  ]
]
