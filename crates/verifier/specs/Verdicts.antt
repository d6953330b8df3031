-- From the bytes of an object file to the verifier's answer.
use Rattle.std.specs.Prelude.{◌≡◌, ℕ, ◌+◌, ◌*◌, ◌<◌, ◌≤◌, List, [], ◌∷◌, ◌++◌, length}
use Rattle.std.specs.Prelude.{codes, decimal}
use Rattle.isa.specs.declared.code.Slot.{Slot}
use Rattle.isa.specs.declared.decoding.DecodeFault.{DecodeFault}
use Rattle.isa.specs.Spelling as code
use Rattle.isa.specs.Refusals as code_refusals
use Rattle.object.specs.Objects.{ObjectParts}
use Rattle.object.specs.Spelling as objects
use Rattle.object.specs.Refusals as object_refusals
use Rattle.machine.specs.Runs.{Safe}
use Rattle.transfer.specs.declared.rule.Rule.TheVariants as rules
use Rattle.verifier.specs.Refusals.{IsFirst, MayRefuse, budget}
use Rattle.verifier.specs.Plain.{IsPlain}
use Rattle.verifier.specs.Programs.{Program}
use Rattle.verifier.specs.declared.refusal.Refusal.{Refusal}
use Rattle.verifier.specs.declared.error.VerifyError.{VerifyError}
use Rattle.verifier.specs.declared.error.VerifyError.TheVariants as errors

-- The bytes spell this object, whose code spells these slots.
pub record HoldsProgram (bytes : List ℕ) (object : ObjectParts) (slots : List Slot) : Type 0 where
  pub spells : objects.Spells bytes object
  pub decoded : code.Spells object.code slots

-- the bound of the instructions of a run: the number of slots, times the entry's rank plus 1
abbrev pub bound_of : ObjectParts → List Slot → ℕ
bound_of object slots = (object.entry_rank + 1) * length slots

-- The program that the bytes hold is accepted, unchanged and at its hook: none of its runs is ever
-- stuck, and each ends within its bound.
pub record Accepts (bytes : List ℕ) (accepted : Program) : Type 0 where
  pub object : ObjectParts
  pub holds : HoldsProgram bytes object accepted.code
  pub hook : accepted.hook ≡ object.hook
  pub bound : accepted.bound ≡ bound_of object accepted.code
  pub most : accepted.bound ≤ budget
  pub safe : Safe accepted.code accepted.hook accepted.bound

-- The program that the bytes hold may be refused at this slot by this rule, the first that counts
-- there. If its bound exceeds the budget, this is the refusal, whatever memory there is. A plain
-- program is refused only if an allocation is.
pub record RefusesProgram (bytes : List ℕ) (refusal : Refusal) : Type 0 where
  pub object : ObjectParts
  pub slots : List Slot
  pub holds : HoldsProgram bytes object slots
  pub named : MayRefuse object.hook slots object.entry_rank object.statements
      refusal.slot refusal.rule
  pub first : IsFirst slots object.statements refusal.slot refusal.rule
  pub over : budget < bound_of object slots → refusal ≡ record { slot = 0; rule = rules.Budget }
  pub plain : IsPlain slots object.entry_rank object.statements → refusal.rule ≡ rules.Memory

-- the refusal of an object's code
pub record RefusesCode (bytes : List ℕ) (slot : ℕ) (fault : DecodeFault) : Type 0 where
  pub object : ObjectParts
  pub spells : objects.Spells bytes object
  pub refuses : code_refusals.Refuses object.code slot fault

abbrev pub Refuses : List ℕ → VerifyError → Type 0
Refuses bytes (errors.Object error) = object_refusals.Refuses bytes error
Refuses bytes (errors.Code error) = RefusesCode bytes error.slot error.kind
Refuses bytes (errors.Refused refusal) = RefusesProgram bytes refusal

-- the line that is printed for an accepted program
abbrev pub accepted_line : (bound : ℕ) → List ℕ
accepted_line bound = codes "accepted bound " ++ (decimal bound ++ 10 ∷ [])
