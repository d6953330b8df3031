-- What the checks of a slot's jumps and statements show.
use Rattle.std.proofs.Common.{◌≡◌, ℕ, ◌+◌, ◌<◌, ◌≤◌, true, List, Option, Some, None, ◌⊎◌, inl}
use Rattle.std.proofs.Common.{⊎_elim, refl, sym, subst, ◌∙◌, length, arith}
use Rattle.std.specs.Prelude.{IfSome, IsSome, IsSomeAnd}
use Rattle.std.proofs.lemmas.Bool.{cases_lt}
use Rattle.std.proofs.lemmas.Option.{none-some, slice_get_past}
use Rattle.object.specs.Statements.{StatementParts}
use Rattle.isa.specs.declared.code.Slot.{Slot}
use Rattle.isa.specs.declared.instruction.Instruction.{Instruction}
use Rattle.isa.specs.Flow.{Begins, BeginsAt, size, jump_target, slot_after}
use Rattle.isa.proofs.Starts.{same_instruction}
use Rattle.kinds.specs.declared.statement.SegmentStart.{SegmentStart}
use Rattle.verifier.specs.Places.{falls_through, segment_start_at}
use Rattle.verifier.specs.SegmentsStated.{statement_at, AreSegmentStarts}
use Rattle.verifier.specs.Refusals.{JumpsNowhere, IsStray, IsBadTarget, FallsOff, IsCutOff}
use Rattle.verifier.specs.Refusals.{IsUnreached, IsUnstated}
use Rattle.verifier.proofs.SegmentStarts.{unstated_of, stated_of}

pub some_and : {A : Type 0} {P : A → Type 0} (o : Option A) → IsSomeAnd o P
    → (x : A) × (o ≡ Some x) × P x
some_and None p = absurd p
some_and (Some x) p = (x, refl, p)

if_some : {A : Type 0} (P : A → Type 0) (o : Option A) (x : A) → IfSome o P → o ≡ Some x → P x
if_some P None x p some = cc
if_some P (Some y) x p some = let same : y ≡ x = cc in subst P same p

-- a slot where an instruction begins is in the code
pub inside_code : (code : List Slot) (slot : ℕ) → Begins code slot → slot < length code
inside_code code slot begins =
    ⊎_elim
    (λ (inside : slot < length code). inside)
    (λ (past : length code ≤ slot). absurd
    (none-some _ (sym (slice_get_past code slot past) ∙ begins.1)))
    (cases_lt slot (length code))

module _ (code : List Slot) (slot : ℕ) (i : Instruction) (here : BeginsAt i code slot) where
  jump_of_one : (j : Instruction) (to : ℕ) → BeginsAt j code slot → jump_target slot j ≡ Some to
      → jump_target slot i ≡ Some to
  jump_of_one j to at jumps = subst (λ k. jump_target slot k ≡ Some to)
      (same_instruction j i at here) jumps

  pub met_target : (statements : List StatementParts) → IfSome (jump_target slot i) (Begins code)
      → IsBadTarget code statements slot → ⊥
  met_target statements begins =
      ⊎_elim
      (λ (jump : JumpsNowhere code slot). jump.nowhere
      (if_some (Begins code) (jump_target slot i) jump.to begins
      (jump_of_one jump.instruction jump.to jump.at jump.jumps)))
      (λ (stray : IsStray code statements slot). stray.nowhere (i, here))

  pub bad_target : (statements : List StatementParts)
      → IsSomeAnd (jump_target slot i) (λ to. Begins code to → ⊥) → IsBadTarget code statements slot
  bad_target statements nowhere =
      let found = some_and (jump_target slot i) nowhere in
      inl (record { instruction = i; at = here; to = found.0; jumps = found.1; nowhere = found.2 })

  pub met_ends : (falls_through i ≡ true → Begins code (slot + size i)) → FallsOff code slot → ⊥
  met_ends on off =
      let same = same_instruction off.instruction i off.at here in
      let last : slot_after slot i ≡ length code =
      subst (λ k. slot_after slot k ≡ length code) same off.last in
      let goes : falls_through i ≡ true = subst (λ k. falls_through k ≡ true) same off.on in
      absurd (omega (arith, inside_code code (slot + size i) (on goes), last))

  pub falls_off : (slot + size i ≡ length code) ⊎ Begins code (slot + size i) → falls_through i
      ≡ true
      → (Begins code (slot + size i) → ⊥) → FallsOff code slot
  falls_off followed goes nowhere =
      ⊎_elim
      (λ (last : slot + size i ≡ length code). record {
        instruction = i;
        at = here;
        last = last;
        on = goes;
      })
      (λ (begins : Begins code (slot + size i)). absurd (nowhere begins))
      followed

  pub unreached : (statements : List StatementParts) → IsCutOff code slot
      → statement_at statements slot ≡ None → IsUnreached code statements slot
  unreached statements cut none = record { begins = (i, here); cut_off = cut; unstated = none }

  module _ {D : Type 0} (contains : D → ℕ → Type 0) (statements : List StatementParts)
      (segment_starts : List (Option (SegmentStart D)))
      (are : AreSegmentStarts contains statements segment_starts)
    where
      pub met_stated : IfSome (jump_target slot i)
          (λ to. IsSome (segment_start_at segment_starts to)) → IsUnstated code statements slot → ⊥
      met_stated stated bad =
          stated_of contains statements segment_starts bad.to are
          (if_some (λ to. IsSome (segment_start_at segment_starts to)) (jump_target slot i) bad.to
          stated
          (jump_of_one bad.instruction bad.to bad.at bad.jumps)) bad.unstated

      pub jumps_unstated : IsSomeAnd (jump_target slot i)
          (λ to. segment_start_at segment_starts to ≡ None) → IsUnstated code statements slot
      jumps_unstated unstated =
          let found = some_and (jump_target slot i) unstated in
          record {
            instruction = i;
            at = here;
            to = found.0;
            jumps = found.1;
            unstated = unstated_of contains statements segment_starts found.0 are found.2;
          }
