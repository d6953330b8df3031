-- Why no program is attached, and the line that says so.
use Rattle.std.specs.Prelude.{◌≡◌, ◌⊎◌, ℕ, List, [], ◌∷◌, ◌++◌, codes, decimal}
use Rattle.isa.specs.Refusals.{fault_number}
use Rattle.isa.specs.declared.decoding.DecodeFault.{DecodeFault}
use Rattle.isa.specs.declared.decoding.DecodeFault.TheVariants as decoding
use Rattle.object.specs.Refusals.{error_number}
use Rattle.object.specs.declared.error.ObjectError.{ObjectError}
use Rattle.object.specs.declared.error.ObjectError.TheVariants as reading
use Rattle.transfer.specs.Rules.{rule_number}
use Rattle.transfer.specs.declared.rule.Rule.{Rule}
use Rattle.transfer.specs.declared.rule.Rule.TheVariants as rules
use Rattle.verifier.specs.Verdicts.{Refuses}
use Rattle.verifier.specs.declared.error.VerifyError.{VerifyError}
use Rattle.verifier.specs.declared.error.VerifyError.TheVariants as verdicts
use Rattle.operator.specs.declared.programs.AttachError.{AttachError}
use Rattle.operator.specs.declared.programs.AttachError.TheVariants as errors

-- what is said of the bytes of the file at a path
abbrev pub Holds : Type 1
Holds = (path : List ℕ) → (bytes : List ℕ) → Type 0

-- what is said of a path whose file can't be read
abbrev pub Unreadable : Type 1
Unreadable = (path : List ℕ) → Type 0

-- how a verdict is told: want of memory as such, everything else with its numbers
abbrev pub object_error : ObjectError → AttachError
object_error reading.Memory = errors.Memory
object_error error = errors.Object (error_number error)

abbrev pub code_error : DecodeFault → (slot : ℕ) → AttachError
code_error decoding.Memory slot = errors.Memory
code_error fault slot = errors.Code slot (fault_number fault)

abbrev pub rule_error : (slot : ℕ) → Rule → AttachError
rule_error slot rules.Memory = errors.Memory
rule_error slot rule = errors.Refused slot (rule_number rule)

abbrev pub error_of : VerifyError → AttachError
error_of (verdicts.Object error) = object_error error
error_of (verdicts.Code error) = code_error error.kind error.slot
error_of (verdicts.Refused refusal) = rule_error refusal.slot refusal.rule

-- The error says why the bytes that the file at the path holds aren't accepted: what they aren't,
-- or at which slot and by which rule they are refused.
pub record IsVerdict (holds : Holds) (path : List ℕ) (e : AttachError) : Type 0 where
  pub bytes : List ℕ
  pub verdict : VerifyError
  pub held : holds path bytes
  pub refuses : Refuses bytes verdict
  pub told : e ≡ error_of verdict

-- the file can't be read, memory was refused, or that is why
abbrev pub IsReason : Holds → Unreadable → (path : List ℕ) → AttachError → Type 0
IsReason holds unreadable path e =
    ((e ≡ errors.Read) × unreadable path) ⊎ (e ≡ errors.Memory) ⊎ IsVerdict holds path e

-- the line of an error, with its line feed (10)
abbrev pub reason_text : (path : List ℕ) → AttachError → List ℕ
reason_text path errors.Read = codes "cannot read " ++ (path ++ 10 ∷ [])
reason_text path (errors.Object number) = codes "object refusal " ++ (decimal number ++ 10 ∷ [])
reason_text path (errors.Code slot number) =
    codes "code refusal " ++ (decimal number ++ (codes " slot " ++ (decimal slot ++ 10 ∷ [])))
reason_text path (errors.Refused slot rule) =
    codes "refused slot " ++ (decimal slot ++ (codes " rule " ++ (decimal rule ++ 10 ∷ [])))
reason_text path errors.Memory = codes "out of memory\n"

-- the line of some error that says why
abbrev pub IsReasonText : Holds → Unreadable → (path : List ℕ) → List ℕ → Type 0
IsReasonText holds unreadable path text =
    (error : AttachError) × IsReason holds unreadable path error × (text ≡ reason_text path error)
