-- Where a step of each form leads, from what is known at the slot.
use Rattle.std.proofs.Common.{◌≡◌, ℕ, ◌+◌, ◌<◌, Bool, true, false, List, Option, Some, None, ◌⊎◌}
use Rattle.std.proofs.Common.{inl, inr, ⊎_elim, refl, ap, ◌∙◌, arith}
use Rattle.std.specs.Prelude.{nat_le, slice_get, IsSomeAnd, ℤ, if◌then◌else◌}
use Rattle.std.proofs.lemmas.Bool.Decides.{nat_tests}
use Rattle.isa.specs.declared.code.Slot.{Slot}
use Rattle.isa.specs.declared.code.Slot.TheVariants.{Start}
use Rattle.isa.specs.declared.hook.Hook.{Hook}
use Rattle.isa.specs.declared.instruction.Instruction.{Instruction}
use Rattle.isa.specs.declared.instruction.Instruction.TheVariants.{Branch, Exit}
use Rattle.isa.specs.declared.instruction.Width.{Width}
use Rattle.isa.specs.declared.instruction.Test.{Test}
use Rattle.isa.specs.declared.instruction.Source.{Source}
use Rattle.machine.specs.declared.fault.Fault.{Fault}
use Rattle.machine.specs.declared.state.State.{State as Machine}
use Rattle.machine.specs.Label.{Label, Silent}
use Rattle.machine.specs.State.{held, operand, after_jump, moved_on}
use Rattle.machine.specs.Steps.{IsAt, Does, Goes}
use Rattle.machine.specs.Faults.{Stuck}
use Rattle.kinds.specs.declared.state.AbstractState.{AbstractState}
use Rattle.kinds.specs.declared.statement.SegmentStart.{SegmentStart}
use Rattle.kinds.specs.Meaning.{StateHolds, SegmentStartHolds}
use Rattle.transfer.specs.declared.branch.Edges.{Edges}
use Rattle.transfer.specs.Given.{Given, blank, setting_of}
use Rattle.transfer.specs.Soundness.{IsSound, CanStep}
use Rattle.transfer.specs.Branches.{IsTested, HoldsBesides, PairHolds}
use Rattle.transfer.specs.Laws.{CanStepIsFree}
use Rattle.verifier.specs.declared.known.Known.{Known}
use Rattle.isa.specs.Flow.{Begins, size, slot_at_distance}
use Rattle.verifier.specs.Places.{IsWellPlaced, falls_through, segment_start_at}
use Rattle.verifier.specs.Segments.{Enters, EntersNext, StepLeads, IsFollowed, IsKnown, Knows}

-- what is known says nothing of the slot
pub moved : {D : Type 0} (contains : D → ℕ → Type 0) (state : AbstractState D)
    (start now next : Machine) (slot : ℕ) → StateHolds contains state start now
    → next ≡ record now {
      slot = slot;
    } → StateHolds contains state start next
moved contains state start now next slot holds same = rw same (record {
  eleven = holds.eleven;
  whole = holds.whole;
  frame = holds.frame;
  registers = holds.registers;
  facts = holds.facts;
  stack = holds.stack;
})

pub besides : {D : Type 0} (contains : D → ℕ → Type 0) (left : ℕ) (right : Source)
    (state : AbstractState D) (start now : Machine) → StateHolds contains state start now
    → HoldsBesides contains left right state start now
besides contains left right state start now holds = record {
  eleven = holds.eleven;
  whole = holds.whole;
  frame = holds.frame;
  registers = λ r small other. holds.registers r small;
  facts = holds.facts;
  stack = holds.stack;
}

-- a step forward to a slot with a statement
pub enters_next : {D : Type 0} (contains : D → ℕ → Type 0)
    (segment_starts : List (Option (SegmentStart D))) (segment target : SegmentStart D)
    (slot to : ℕ) (start next : Machine) → slot < to → next.slot ≡ to
    → segment_start_at segment_starts to ≡ Some target
    → Enters contains false segment target start next
    → EntersNext contains segment_starts segment slot start next
enters_next contains segment_starts segment target slot to start next less at stated enters =
    let forward : nat_le next.slot slot ≡ false = grind (arith, nat_tests) in
    let there : segment_start_at segment_starts next.slot ≡ Some target = rw at stated in
    rw (there, forward) enters

module _ {D : Type 0} (contains : D → ℕ → Type 0) (code : List Slot) (hook : Hook)
    (segment_starts : List (Option (SegmentStart D))) (segment : SegmentStart D) (slot : ℕ)
    (after : Known D) where
  -- a step to the next slot
  Passes : Instruction → Machine → Machine → Type 0
  Passes i start next = EntersNext contains segment_starts segment slot start next
      ⊎ ((segment_start_at segment_starts (slot + size i) ≡ None)
      × Knows contains segment after start next)

  behind : (i : Instruction) (start next : Machine) → Begins code (slot + size i)
      → next.slot ≡ slot + size i → EntersNext contains segment_starts segment slot start next
      ⊎ ((segment_start_at segment_starts (slot + size i) ≡ None)
      × Knows contains segment after start next)
      → StepLeads contains code segment_starts segment slot i after start next
  behind i start next begins at passes = record {
    begins = rw at begins;
    goes = ⊎_elim
        (λ (enters : EntersNext contains segment_starts segment slot start next). inl enters)
        (λ (through : (segment_start_at segment_starts (slot + size i) ≡ None)
        × Knows contains segment after start next). inr (record {
          behind = at;
          unstated = rw at through.0;
          knows = through.1;
        }))
        passes;
  }

  -- an instruction that is neither a jump nor EXIT
  pub goes_straight : (i : Instruction) (state known : AbstractState D) → CanStepIsFree
      → slice_get code slot ≡ Some (Start i) → IsWellPlaced code segment_starts slot i
      → falls_through i ≡ true → IsSound contains hook i state known
      → ((start next : Machine) → next.slot ≡ slot + size i
      → IsKnown contains segment known start next
      → EntersNext contains segment_starts segment slot start next
      ⊎ ((segment_start_at segment_starts (slot + size i) ≡ None)
      × Knows contains segment after start next))
      → IsFollowed contains code hook segment_starts segment slot i
      state after
  goes_straight i state known never here placed on sound passes = record {
    free = λ input start now fault at holds stuck. never code hook i now (rw at here)
        (sound.goes code start now holds) input fault stuck;
    goes_on = λ input start now next label at is_known does.
        let follows = sound.follows code input start now next label is_known.holds does in
        let there : next.slot ≡ slot + size i = follows.0 ∙ ap (λ n. n + size i) at in
        behind i start next (placed.on on) there (passes start next there (record {
          begins = is_known.begins;
          holds = follows.1;
        }));
  }

  -- the two outcomes of a test
  branch_goes : (width : Width) (test : Test) (left : ℕ) (right : Source) (distance : ℤ)
      (start now next : Machine) → now.slot ≡ slot
      → IsWellPlaced code segment_starts slot (Branch width test left right distance)
      → (taken : Bool) → next ≡ (if taken then after_jump now distance else moved_on now)
      → (taken ≡ true → next ≡ record now {
        slot = slot_at_distance slot distance;
      } → EntersNext contains segment_starts segment slot start next)
      → (taken ≡ false → next ≡ record now {
        slot = slot + 1;
      } → EntersNext contains segment_starts segment slot start next
      ⊎ ((segment_start_at segment_starts (slot + 1) ≡ None)
      × Knows contains segment after start next))
      → StepLeads contains code segment_starts segment slot (Branch width test left right distance)
      after
      start next
  branch_goes width test left right distance start now next at placed true same enters passes =
      let there : next ≡ record now { slot = slot_at_distance slot distance } = rw at at same in
      record { begins = rw there placed.jump.begins; goes = inl (enters refl there) }
  branch_goes width test left right distance start now next at placed false same enters passes =
      let there : next ≡ record now { slot = slot + 1 } = rw at at same in
      behind (Branch width test left right distance) start next (placed.on refl) (rw there refl)
      (passes refl there)

  pub goes_by_test : (width : Width) (test : Test) (left : ℕ) (right : Source) (distance : ℤ)
      (state : AbstractState D) (edges : Edges D) → CanStepIsFree
      → slice_get code slot ≡ Some (Start (Branch width test left right distance))
      → IsWellPlaced code segment_starts slot (Branch width test left right distance)
      → IsTested contains width test left right state edges
      → ((start now next : Machine) → SegmentStartHolds contains segment start
      → HoldsBesides contains left right state start now
      → IsSomeAnd edges.taken (λ values. PairHolds contains values (held now left)
      (operand now right)) → next ≡ record now {
        slot = slot_at_distance slot distance;
      } → EntersNext contains segment_starts segment slot start next)
      → ((start now next : Machine) → SegmentStartHolds contains segment start
      → HoldsBesides contains left right state start now
      → IsSomeAnd edges.not_taken (λ values. PairHolds contains values (held now left)
      (operand now right)) → next ≡ record now {
        slot = slot + 1;
      } → EntersNext contains segment_starts segment slot start next
      ⊎ ((segment_start_at segment_starts (slot + 1) ≡ None)
      × Knows contains segment after start next))
      → IsFollowed contains code hook segment_starts segment slot
      (Branch width test left right distance)
      state after
  goes_by_test width test left right distance state edges never here placed is_tested enters passes
      = record {
        free = λ input start now fault at holds stuck.
            let outcome = is_tested.goes start now holds in
            let can : CanStep (Branch width test left right distance) (setting_of code hook blank)
            now = (
              Silent,
              (if outcome.0 then after_jump now distance else moved_on now),
              record {
                taken = outcome.0;
                gives = outcome.1;
                silent = refl;
                after = refl;
              },
            ) in
            never code hook (Branch width test left right distance) now (rw at here) can input fault
            stuck;
        goes_on = λ input start now next label at is_known does.
            let known = besides contains left right state start now is_known.holds in
            branch_goes width test left right distance start now next at placed does.taken
            does.after
            (λ taken there. enters start now next is_known.begins known
            (is_tested.taken start now is_known.holds (does.gives ∙ ap (λ b. Some b) taken)) there)
            (λ passed there. passes start now next is_known.begins known
            (is_tested.not_taken start now is_known.holds (does.gives ∙ ap (λ b. Some b) passed))
            there);
      }

  -- a jump
  pub goes_by_jump : (i : Instruction) (distance : ℤ) (state : AbstractState D) → CanStepIsFree
      → slice_get code slot ≡ Some (Start i) → Begins code (slot_at_distance slot distance)
      → ((input : Given) (now next : Machine) (label : Label)
      → Does i (setting_of code hook input) now label next → Goes now distance label next)
      → ((input : Given) (now next : Machine) (label : Label)
      → Goes now distance label next
      → Does i (setting_of code hook input) now label next)
      → ((start now next : Machine) → IsKnown contains segment state start now → next ≡ record now {
        slot = slot_at_distance slot distance;
      } → EntersNext contains segment_starts segment slot start next)
      → IsFollowed contains code hook segment_starts segment slot i state after
  goes_by_jump i distance state never here begins does_goes goes_does enters = record {
    free = λ input start now fault at holds stuck.
        let can : CanStep i (setting_of code hook blank) now = (
          Silent,
          after_jump now distance,
          goes_does blank now (after_jump now distance) Silent (record {
            silent = refl;
            after = refl;
          }),
        ) in
        never code hook i now (rw at here) can input fault stuck;
    goes_on = λ input start now next label at is_known does.
        let goes = does_goes input now next label does in
        let there : next ≡ record now {
          slot = slot_at_distance slot distance;
        } = rw at at goes.after in
        record { begins = rw there begins; goes = inl (enters start now next is_known there) };
  }

  pub goes_nowhere : (state : AbstractState D) → slice_get code slot ≡ Some (Start Exit)
      → ((input : Given) (start now : Machine) → StateHolds contains state start now
      → IsAt (setting_of code hook input) now Exit → (fault : Fault)
      → Stuck (setting_of code hook input) now fault → ⊥)
      → IsFollowed contains code hook segment_starts segment slot Exit state after
  goes_nowhere state here free = record {
    free = λ input start now fault at holds stuck. free input start now holds (rw at here) fault
        stuck;
    goes_on = λ input start now next label at is_known does. absurd does;
  }
