-- Code whose instructions lead to others of it: each state of its runs is at one of them.
use Rattle.std.proofs.Common.{◌≡◌, ℕ, ◌≤◌, ◌⊎◌, inl, inr, true, List, [], ◌∷◌, length, Option, Some}
use Rattle.std.proofs.Common.{refl, sym, ap, subst, arith}
use Rattle.std.specs.Prelude.{IfSome}
use Rattle.isa.specs.declared.code.Slot.{Slot}
use Rattle.isa.specs.declared.hook.Hook.{Hook}
use Rattle.isa.specs.declared.instruction.Instruction.{Instruction}
use Rattle.isa.specs.declared.instruction.Instruction.TheVariants as instructions
use Rattle.isa.specs.Code.{IsCode}
use Rattle.isa.specs.Flow.{Begins, jump_target, slot_after}
use Rattle.machine.specs.declared.fault.Fault.TheVariants.{Outside, HalfWide}
use Rattle.machine.specs.declared.state.State.{State}
use Rattle.machine.specs.Faults.{Stuck, commits}
use Rattle.machine.specs.Given.{Given}
use Rattle.machine.specs.Label.{Label}
use Rattle.machine.specs.Laws.{LeastFaultCounts, StepsLeadByCode}
use Rattle.machine.specs.Runs.{Ends}
use Rattle.machine.specs.State.{Setting, setting_of, start}
use Rattle.machine.specs.Steps.{Does}
use Rattle.annotations.specs.CountedCode.{IsCounted, LeadsInside, StaysInside}
use Rattle.program_laws.specs.CountedRuns.{CodeThatStaysInsideIsNeverLeft, CountedRunsAreRuns}
use Rattle.program_laws.specs.CountedRuns.{IsRun, IsRunInside, LeadsInTurns, Leaves}
use Rattle.program_laws.proofs.Codes.{Whole, whole_code}
use Rattle.program_laws.proofs.Codes.Whole.{End, Short, Wide}

-- an instruction begins at the first slot
begins_first : (code : List Slot) → Whole code → 1 ≤ length code → Begins code 0
begins_first code End some = absurd (omega arith)
begins_first code (Short i fits short rest whole) some = (i, refl)
begins_first code (Wide i fits wide rest whole) some = (i, refl)

module _ (least : LeastFaultCounts) (steps : StepsLeadByCode) (setting : Setting)
    (inside : StaysInside setting.code) where
  behind_or_to : (slot next : ℕ) (i : Instruction) → Begins setting.code (slot_after slot i)
      → IfSome (jump_target slot i) (Begins setting.code)
      → (next ≡ slot_after slot i) ⊎ (jump_target slot i ≡ Some next)
      → Begins setting.code next
  behind_or_to slot next i behind target (inl e) = subst (Begins setting.code) (sym e) behind
  behind_or_to slot next i behind target (inr e) =
      subst (λ (to : Option ℕ). IfSome to (Begins setting.code)) e target

  begins_next : (s next : State) (label : Label) (i : Instruction)
      → LeadsInside setting.code s.slot i → Does i setting s label next
      → Begins setting.code next.slot
  begins_next s next label (instructions.Jump distance) leads does =
      subst (Begins setting.code) (sym (ap (λ (t : State). t.slot) does.after)) leads.1
  begins_next s next label (instructions.LongJump distance) leads does =
      subst (Begins setting.code) (sym (ap (λ (t : State). t.slot) does.after)) leads.1
  begins_next s next label instructions.Exit leads does = absurd does
  begins_next s next label other leads does =
      behind_or_to s.slot next.slot other (leads.0 refl) leads.1
      (steps setting s next label other does)

  begins_last : (heads : List ℕ) (s : State) (labels : List Label) (turns : ℕ) (last : State)
      → Begins setting.code s.slot → LeadsInTurns setting heads s labels turns last
      → Begins setting.code last.slot
  begins_last heads s [] turns last begins leads =
      subst (λ (t : State). Begins setting.code t.slot) leads.0 begins
  begins_last heads s (label ∷ labels) turns last begins (next, step, more, sum, leads) =
      begins_last heads next labels more last
      (begins_next s next label step.instruction (inside s.slot step.instruction step.at)
      step.does) leads

  not_stuck : (s : State) → Begins setting.code s.slot
      → Stuck setting s Outside ⊎ Stuck setting s HalfWide → ⊥
  not_stuck s (i, at) (inl stuck) =
      let e : commits setting s i Outside ≡ true = ((least setting s i Outside at).0 stuck).holds in
      cc
  not_stuck s (i, at) (inr stuck) =
      let e : commits setting s i HalfWide ≡ true = ((least setting s i HalfWide at).0 stuck).holds
      in cc

  never_leaves : (heads : List ℕ) (s : State) (most : ℕ) (found : List Label)
      → Begins setting.code s.slot → Leaves setting heads s most found → ⊥
  never_leaves heads s most found begins leaves =
      not_stuck leaves.last
      (begins_last heads s leaves.labels leaves.turns leaves.last begins leaves.leads)
      leaves.stuck

  but_the_last : (heads : List ℕ) (s : State) (answer most : ℕ) (labels : List Label) (word : ℕ)
      → Begins setting.code s.slot → IsRun setting heads s answer most labels word
      → IsRunInside setting heads s answer most labels word
  but_the_last heads s answer most labels word begins (inl a) = inl a
  but_the_last heads s answer most labels word begins (inr (inl t)) = inr t
  but_the_last heads s answer most labels word begins (inr (inr l)) =
      absurd (never_leaves heads s most _ begins l)

module _ (runs : CountedRunsAreRuns) (least : LeastFaultCounts) (steps : StepsLeadByCode) where
  run_inside : (answer turns : ℕ) (heads : List ℕ) (code counted : List Slot)
      → IsCode code → StaysInside code → IsCode counted → IsCounted answer turns heads code counted
      → (hook : Hook) (input : Given) (n : ℕ) (labels : List Label) (word : ℕ)
      → Ends (setting_of counted hook input) n labels word
      → IsRunInside (setting_of code hook input) heads start answer turns labels word
  run_inside answer turns heads code counted is_code inside is_counted counts hook input n labels
      word ends =
      but_the_last least steps (setting_of code hook input) inside heads start answer turns labels
      word (begins_first code (whole_code code is_code.whole) is_code.some)
      (runs answer turns heads code counted is_code is_counted counts hook input n labels word ends)

  pub never_left : CodeThatStaysInsideIsNeverLeft
  never_left = record {
    of_code = run_inside;
    of_texts = λ answer turns text counted counts hook input n labels word ends.
        run_inside answer turns counts.heads counts.slots counts.counted_slots
        counts.code_is.code_is counts.inside counts.counted_is.code_is counts.is_counted hook input
        n labels word ends;
  }
