-- The program that an object's bytes hold, and the verifier's answer about it.
use Rattle.std.proofs.Common.{◌≡◌, ◌<◌, ◌≤◌, ◌+◌, ◌*◌, ◌∙◌, ℕ, List, ap, ap₂, sym, subst, subst₂}
use Rattle.std.proofs.Common.{length, arith}
use Rattle.std.specs.Prelude.{IfErr, Result, Ok, Err}
use Rattle.std.specs.Result.{IsErrAnd}
use Rattle.isa.proofs.Fronts.{spells_long}
use Rattle.isa.specs.Spelling.{Spells}
use Rattle.isa.specs.declared.code.Slot.{Slot}
use Rattle.isa.specs.declared.hook.Hook.{Hook}
use Rattle.machine.specs.Runs.{Safe}
use Rattle.object.specs.Objects.{AreStatements, IsObject, ObjectParts, slots_of}
use Rattle.object.specs.Spelling as objects
use Rattle.object.specs.Statements.{StatementParts}
use Rattle.transfer.specs.declared.rule.Rule.TheVariants as rules
use Rattle.verifier.specs.Refusals.{IsFirst, MayRefuse, budget}
use Rattle.verifier.specs.Plain.{IsPlain}
use Rattle.verifier.specs.Programs.{Program}
use Rattle.verifier.specs.declared.refusal.Refusal.{Refusal}
use Rattle.verifier.specs.Verdicts.{Accepts, Refuses, RefusesProgram}
use Rattle.verifier.specs.declared.error.VerifyError.{VerifyError}
use Rattle.verifier.specs.declared.error.VerifyError.TheVariants.{Refused}

-- the statements of an object are in the order of the slots that its code spells
pub stated_in : (object : ObjectParts) (bytes : List ℕ) (code : List Slot)
    (statements : List StatementParts) → IsObject object → bytes ≡ object.code → Spells bytes code
    → statements ≡ object.statements → AreStatements 0 (length code) statements
stated_in object bytes code statements is same spelled own =
    let long : length bytes ≡ 8 * length code = spells_long bytes code spelled in
    let slots : slots_of object ≡ length code = omega (arith, long, ap length same) in
    subst₂ (λ (n : ℕ) (stated : List StatementParts). AreStatements 0 n stated) slots (sym own)
    is.statements

-- what is accepted is the program that the bytes hold
pub accepts_of : (bytes : List ℕ) (object : ObjectParts) (spelled : List ℕ) (code : List Slot)
    (hook : Hook) (rank : ℕ) (accepted : Program) → objects.Spells bytes object
    → spelled ≡ object.code → Spells spelled code → hook ≡ object.hook
    → rank ≡ object.entry_rank → accepted.code ≡ code → accepted.hook ≡ hook
    → accepted.bound ≡ (rank + 1) * length code → accepted.bound ≤ budget
    → Safe code hook ((rank + 1) * length code) → Accepts bytes accepted
accepts_of bytes object spelled code hook rank accepted spells own decoded at from same_code
    same_hook bound most safe = record {
      object = object;
      holds = record { spells = spells; decoded = subst₂ Spells own (sym same_code) decoded };
      hook = same_hook ∙ at;
      bound = bound ∙ ap₂ (λ (b : ℕ) (slots : List Slot). (b + 1) * length slots) from
          (sym same_code);
      most = most;
      safe = subst₂ (λ (slots : List Slot) (n : ℕ). Safe slots accepted.hook n) (sym same_code)
          (sym bound)
          (subst (λ (h : Hook). Safe code h ((rank + 1) * length code)) (sym same_hook) safe);
    }

-- two errors of one result are the same
error_in : {A : Type 0} → Refusal → Result A Refusal → Refusal
error_in other (Ok value) = other
error_in other (Err error) = error

one_error : {A : Type 0} (given : Result A Refusal) (refusal other : Refusal) → given ≡ Err refusal
    → given ≡ Err other → refusal ≡ other
unfolding error_in
one_error given refusal other is at = ap (error_in refusal) (sym is ∙ at)

-- what is refused is the program that the bytes hold
program_refused : {A : Type 0} (given : Result A Refusal) (bytes : List ℕ) (object : ObjectParts)
    (spelled : List ℕ) (code : List Slot) (hook : Hook) (rank : ℕ)
    (statements : List StatementParts) (refusal : Refusal) → given ≡ Err refusal
    → objects.Spells bytes object → spelled ≡ object.code → Spells spelled code
    → hook ≡ object.hook → rank ≡ object.entry_rank → statements ≡ object.statements
    → MayRefuse hook code rank statements refusal.slot refusal.rule
    → IsFirst code statements refusal.slot refusal.rule
    → (IsPlain code rank statements → refusal.rule ≡ rules.Memory)
    → (budget < (rank + 1) * length code → given ≡ Err (record { slot = 0; rule = rules.Budget }))
    → RefusesProgram bytes refusal
program_refused given bytes object spelled code hook rank statements refusal is spells own decoded
    at from stated named first plain over = record {
      object = object;
      slots = code;
      holds = record {
        spells = spells;
        decoded = subst (λ (b : List ℕ). Spells b code) own decoded;
      };
      named = subst (λ (s : List StatementParts). MayRefuse object.hook code object.entry_rank s
          refusal.slot refusal.rule) stated
          (subst₂ (λ (h : Hook) (r : ℕ). MayRefuse h code r statements refusal.slot refusal.rule) at
          from named);
      first = subst (λ (s : List StatementParts). IsFirst code s refusal.slot refusal.rule) stated
          first;
      over = λ past. one_error given refusal (record { slot = 0; rule = rules.Budget }) is
          (over (subst (λ (r : ℕ). budget < (r + 1) * length code) (sym from) past));
      plain = subst₂ (λ (r : ℕ) (s : List StatementParts). IsPlain code r s
          → refusal.rule ≡ rules.Memory) from stated plain;
    }

-- and is reported as that
pub refused_so : {A T : Type 0} (given : Result A Refusal) (result : Result T VerifyError)
    (bytes : List ℕ) (object : ObjectParts) (spelled : List ℕ) (code : List Slot) (hook : Hook)
    (rank : ℕ) (statements : List StatementParts) (refusal : Refusal)
    → IsErrAnd result (λ e. e ≡ Refused refusal) → given ≡ Err refusal
    → objects.Spells bytes object → spelled ≡ object.code → Spells spelled code
    → hook ≡ object.hook → rank ≡ object.entry_rank → statements ≡ object.statements
    → MayRefuse hook code rank statements refusal.slot refusal.rule
    → IsFirst code statements refusal.slot refusal.rule
    → (IsPlain code rank statements → refusal.rule ≡ rules.Memory)
    → (budget < (rank + 1) * length code → given ≡ Err (record { slot = 0; rule = rules.Budget }))
    → IfErr result (Refuses bytes)
refused_so given (Ok value) bytes object spelled code hook rank statements refusal told is spells
    own decoded at from stated named first plain over = absurd told
refused_so given (Err error) bytes object spelled code hook rank statements refusal told is spells
    own decoded at from stated named first plain over =
    subst (Refuses bytes) (sym told) (program_refused given bytes object spelled code hook rank
    statements refusal is spells own decoded at from stated named first plain over)
