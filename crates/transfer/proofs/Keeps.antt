-- Registers that are known to hold numbers, and remain known to.
use Rattle.std.proofs.Common.{◌≡◌, ◌≢◌, ℕ, ◌<◌, ◌≤◌, List, ◌∷◌, length, get_or, Option, Some, refl}
use Rattle.std.proofs.Common.{sym, subst, ◌∙◌, arith, ⊎_elim}
use Rattle.std.specs.Prelude.{slice_set}
use Rattle.std.proofs.Math.ListN.{get_or-eq_default}
use Rattle.std.proofs.lemmas.List.{get_or-set_same, get_or-set_other, length-set}
use Rattle.std.proofs.lemmas.Bool.{cases_lt}
use Rattle.isa.specs.declared.instruction.Instruction.{Instruction}
use Rattle.isa.specs.declared.instruction.Operation.{Operation}
use Rattle.isa.specs.declared.instruction.Operation.TheVariants as operations
use Rattle.isa.specs.declared.instruction.Source.{Source}
use Rattle.kinds.specs.declared.state.Kind.{Kind}
use Rattle.kinds.specs.declared.state.Kind.TheVariants.{Unknown}
use Rattle.kinds.specs.declared.state.AbstractState.{AbstractState}
use Rattle.kinds.specs.Plain.{IsNumber, HoldsNumber}
use Rattle.isa.specs.Flow.{register_written, operation_registers, source_registers}
use Rattle.transfer.specs.Plain.{FillsNumber, KeepsFilled}

-- after a number is put into a list, numbers remain numbers
pub number_set : {D : Type 0} (xs : List (Kind D)) (i : ℕ) (kind : Kind D) → IsNumber kind → (r : ℕ)
    → IsNumber (get_or xs r Unknown) → IsNumber (get_or (slice_set xs i kind) r Unknown)
number_set xs i kind new r old =
    ⊎_elim (λ (low : r < i). apart (λ (same : r ≡ i). omega arith))
    (λ (high : i ≤ r).
    ⊎_elim (λ (above : i < r). apart (λ (same : r ≡ i). omega arith))
    (λ (most : r ≤ i).
    let same : r ≡ i = omega arith in
    ⊎_elim (λ (within : i < length xs). subst
    (λ k. IsNumber (get_or (slice_set xs i kind) k Unknown))
    (sym same) (rw (get_or-set_same xs i kind Unknown within) new))
    (λ (past : length xs ≤ i).
    let long : length xs ≤ r = omega arith in
    absurd (rw (get_or-eq_default xs Unknown long) at old))
    (cases_lt i (length xs)))
    (cases_lt i r))
    (cases_lt r i)
  where
    apart : r ≢ i → IsNumber (get_or (slice_set xs i kind) r Unknown)
    apart other = rw (get_or-set_other xs i r kind Unknown other) old

pub filled_set : {D : Type 0} (state after : AbstractState D) (i : ℕ) (kind : Kind D)
    → IsNumber kind → after.kinds.items ≡ slice_set state.kinds.items i kind → (r : ℕ)
    → HoldsNumber state r → HoldsNumber after r
filled_set state after i kind new is r filled = record {
  low = filled.low;
  number = rw is (number_set state.kinds.items i kind new r filled.number);
}

same_register : (written : Option ℕ) (a b : ℕ) → written ≡ Some a → written ≡ Some b → a ≡ b
same_register written a b e f = cc

-- an instruction that fills its target with a number keeps all numbers
pub keeps : {D : Type 0} (instruction : Instruction) (state after : AbstractState D) (target : ℕ)
    → register_written instruction ≡ Some target → FillsNumber state target after
    → length state.kinds.items ≡ 10 → KeepsFilled instruction state after
keeps instruction state after target names fills ten =
    let within : target < length state.kinds.items = omega (arith, fills.low, ten) in
    let here : IsNumber (get_or after.kinds.items target Unknown) =
    rw (fills.items, get_or-set_same state.kinds.items target fills.kind Unknown within)
    fills.number in
    record {
      ten = rw fills.items (length-set state.kinds.items target fills.kind ∙ ten);
      written = λ r writes. let same : target ≡ r =
          same_register (register_written instruction) target r names writes in
          subst (λ k. HoldsNumber after k) same (record { low = fills.low; number = here });
      others = λ r filled. filled_set state after target fills.kind fills.number fills.items r
          filled;
    }

-- every operation but MOV reads its target too
pub reads_both : (operation : Operation) (target : ℕ) (source : Source)
    → (operation ≡ operations.Move → ⊥)
    → operation_registers operation target source ≡ target ∷ source_registers source
reads_both operations.Move target source other = absurd (other refl)
reads_both operations.Add target source other = refl
reads_both operations.Subtract target source other = refl
reads_both operations.Multiply target source other = refl
reads_both operations.Divide target source other = refl
reads_both operations.SignedDivide target source other = refl
reads_both operations.Or target source other = refl
reads_both operations.And target source other = refl
reads_both operations.ShiftLeft target source other = refl
reads_both operations.ShiftRight target source other = refl
reads_both operations.Modulo target source other = refl
reads_both operations.SignedModulo target source other = refl
reads_both operations.Xor target source other = refl
reads_both operations.ArithmeticShiftRight target source other = refl
