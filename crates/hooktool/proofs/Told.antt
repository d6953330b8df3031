-- How what is wrong with the words is told.
use Rattle.std.proofs.Common.{◌≡◌, ◌∙◌, ℕ, inl, inr, refl, subst, sym}
use Rattle.std.specs.Prelude.{◌⊎◌}
use Rattle.clap.specs.Values.{kind_of}
use Rattle.clap.specs.declared.error.Error.{Error}
use Rattle.clap.specs.declared.error.ErrorKind.{ErrorKind}
use Rattle.clap.specs.declared.error.ErrorKind.TheVariants as kinds
use Rattle.hooktool.specs.Streams.{StreamState}
use Rattle.hooktool.specs.Endings.{Fails, LeavesOne, TellsWords}
use Rattle.hooktool.specs.Statuses.{status_of_words}

-- which status a kind has, and which stream it leaves
record IsToldAs (kind : ErrorKind) (most : ℕ)
    (output output_after errors errors_after : StreamState) : Type 0 where
  status : status_of_words kind ≡ most
  other : LeavesOne kind output output_after errors errors_after

memory_is : (kind : ErrorKind) (output output_after errors : StreamState) → kind ≡ kinds.OutOfMemory
    → IsToldAs kind 4 output output_after errors errors
memory_is kind output output_after errors is =
    subst (λ (k : ErrorKind). IsToldAs k 4 output output_after errors errors) (sym is) (record {
      status = refl;
      other = refl;
    })

help_is : (kind : ErrorKind) (output output_after errors : StreamState)
    → (kind ≡ kinds.DisplayHelp) ⊎ (kind ≡ kinds.DisplayVersion)
    → IsToldAs kind 0 output output_after errors errors
help_is kind output output_after errors is = elim is [
  | inl help ↦ subst (λ (k : ErrorKind). IsToldAs k 0 output output_after errors errors) (sym help)
      (record { status = refl; other = refl })
  | inr version ↦ subst (λ (k : ErrorKind). IsToldAs k 0 output output_after errors errors)
      (sym version) (record { status = refl; other = refl })
]

mistake_is : (kind : ErrorKind) (output errors errors_after : StreamState)
    → (kind ≡ kinds.OutOfMemory → ⊥) → (kind ≡ kinds.DisplayHelp → ⊥)
    → (kind ≡ kinds.DisplayVersion → ⊥) → IsToldAs kind 2 output output errors errors_after
mistake_is kinds.OutOfMemory output errors errors_after memory help version = absurd (memory refl)
mistake_is kinds.DisplayHelp output errors errors_after memory help version = absurd (help refl)
mistake_is kinds.DisplayVersion output errors errors_after memory help version =
    absurd (version refl)
mistake_is other output errors errors_after memory help version = record {
  status = refl;
  other = refl;
}

told_as : (error : Error) (kind : ErrorKind) (most : ℕ)
    (output output_after errors errors_after : StreamState) (status : ℕ) → kind ≡ kind_of error
    → IsToldAs kind most output output_after errors errors_after
    → Fails output_after status ⊎ (Fails errors_after status ⊎ (status ≡ most))
    → TellsWords error output output_after errors errors_after status
told_as error kind most output output_after errors errors_after status kind_is own told = record {
  status_is = elim told [
    | inl fails ↦ inl fails
    | inr rest ↦ elim rest [
      | inl fails ↦ inr (inl fails)
      | inr is ↦ inr (inr (is ∙ sym (subst (λ (k : ErrorKind). status_of_words k ≡ most) kind_is
          own.status)))
    ]
  ];
  other_stream = subst (λ (k : ErrorKind). LeavesOne k output output_after errors errors_after)
      kind_is own.other;
}

pub tells_memory : (error : Error) (kind : ErrorKind) (output output_after errors : StreamState)
    (status : ℕ) → kind ≡ kind_of error → kind ≡ kinds.OutOfMemory
    → Fails output_after status ⊎ (status ≡ 4)
    → TellsWords error output output_after errors errors status
tells_memory error kind output output_after errors status kind_is is told =
    told_as error kind 4 output output_after errors errors status kind_is
    (memory_is kind output output_after errors is)
    (elim told [ inl fails ↦ inl fails | inr four ↦ inr (inr four) ])

pub tells_help : (error : Error) (kind : ErrorKind) (output output_after errors : StreamState)
    (status : ℕ) → kind ≡ kind_of error → (kind ≡ kinds.DisplayHelp) ⊎ (kind ≡ kinds.DisplayVersion)
    → Fails output_after status ⊎ (status ≡ 0)
    → TellsWords error output output_after errors errors status
tells_help error kind output output_after errors status kind_is is told =
    told_as error kind 0 output output_after errors errors status kind_is
    (help_is kind output output_after errors is)
    (elim told [ inl fails ↦ inl fails | inr done ↦ inr (inr done) ])

pub tells_mistake : (error : Error) (kind : ErrorKind) (output errors errors_after : StreamState)
    (status : ℕ) → kind ≡ kind_of error → (kind ≡ kinds.OutOfMemory → ⊥)
    → (kind ≡ kinds.DisplayHelp → ⊥) → (kind ≡ kinds.DisplayVersion → ⊥)
    → Fails errors_after status ⊎ (status ≡ 2)
    → TellsWords error output output errors errors_after status
tells_mistake error kind output errors errors_after status kind_is memory help version told =
    told_as error kind 2 output output errors errors_after status kind_is
    (mistake_is kind output errors errors_after memory help version)
    (elim told [ inl fails ↦ inr (inl fails) | inr usage ↦ inr (inr usage) ])

-- that words can't be read
pub memory_status : (A B : Type 0) (kind : ErrorKind) (status : ℕ) → kind ≡ kinds.OutOfMemory
    → A ⊎ (B ⊎ (status ≡ status_of_words kind)) → A ⊎ (B ⊎ (status ≡ 4))
memory_status A B kind status is told =
    subst (λ (k : ErrorKind). A ⊎ (B ⊎ (status ≡ status_of_words k))) is told

pub unread_status : (A B : Type 0) (kind : ErrorKind) (status : ℕ)
    → (kind ≡ kinds.OutOfMemory) ⊎ (kind ≡ kinds.InvalidValue)
    → A ⊎ (B ⊎ (status ≡ status_of_words kind)) → A ⊎ (B ⊎ ((status ≡ 2) ⊎ (status ≡ 4)))
unread_status A B kind status is told = elim told [
  | inl a ↦ inl a
  | inr rest ↦ elim rest [
    | inl b ↦ inr (inl b)
    | inr own ↦ elim is [
      | inl memory ↦ inr (inr (inr (subst (λ (k : ErrorKind). status ≡ status_of_words k) memory
          own)))
      | inr value ↦ inr (inr (inl (subst (λ (k : ErrorKind). status ≡ status_of_words k) value
          own)))
    ]
  ]
]
