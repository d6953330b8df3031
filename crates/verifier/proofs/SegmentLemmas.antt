-- What the verifier finds out at a slot holds of every visit.
use Rattle.std.proofs.Common.{◌≡◌, ℕ, ◌+◌, ◌<◌, ◌≤◌, Bool, true, false, List, [], ◌∷◌, Option, Some}
use Rattle.std.proofs.Common.{None, ◌⊎◌, inl, inr, ⊎_elim, refl, sym, subst, ◌∙◌, length, arith}
use Rattle.std.specs.Prelude.{slice_get, IsSomeAnd, MatchOption, nat_le, unwrap_or}
use Rattle.isa.specs.declared.code.Slot.{Slot}
use Rattle.isa.specs.declared.code.Slot.TheVariants.{Start, SecondHalf}
use Rattle.isa.specs.declared.hook.Hook.{Hook}
use Rattle.isa.specs.declared.instruction.Instruction.{Instruction}
use Rattle.isa.specs.Code.{IsCode, is_wide, slots_of}
use Rattle.std.specs.List.{flat_map}
use Rattle.std.proofs.lemmas.Bool.{cases_lt}
use Rattle.std.proofs.lemmas.Option.{none-some, same_Some}
use Rattle.isa.specs.Flow.{Begins, size}
use Rattle.isa.specs.Laws.{OneEndsAtASlot, WideHasSecondHalf}
use Rattle.machine.specs.declared.state.State.{State as Machine}
use Rattle.machine.specs.Steps.{Does}
use Rattle.kinds.specs.declared.statement.SegmentStart.{SegmentStart}
use Rattle.kinds.specs.Meaning.{StateHolds, SegmentStartHolds}
use Rattle.transfer.specs.Given.{Given, setting_of}
use Rattle.verifier.specs.declared.known.Known.{Known}
use Rattle.verifier.specs.Places.{segment_of, segment_start_at}
use Rattle.verifier.specs.Segments.{Visits, at_entry, at_statement, falls, Enters, EntersNext}
use Rattle.verifier.specs.Segments.{LeadsOn}
use Rattle.verifier.specs.Segments.{IsFine, Knows, FallsThrough, IsFollowed, IsCurrent}
use Rattle.verifier.specs.Segments.{IsCurrentUnlessStated}
use Rattle.isa.proofs.Starts.{same_instruction}

-- an instruction takes one slot or two
pub sizes : (wide : Bool) (i : Instruction) → is_wide i ≡ wide
    → ((size i ≡ 1) × (wide ≡ false)) ⊎ ((size i ≡ 2) × (wide ≡ true))
sizes true i is = inr (rw is refl, refl)
sizes false i is = inl (rw is refl, refl)

pub size_some : (i : Instruction) → 1 ≤ size i
size_some i = ⊎_elim (λ (one : (size i ≡ 1) × (is_wide i ≡ false)). omega (arith, one.0))
    (λ (two : (size i ≡ 2) × (is_wide i ≡ true)). omega (arith, two.0)) (sizes (is_wide i) i refl)

half_is_start : (slot : Option Slot) (i : Instruction) → slot ≡ Some SecondHalf
    → slot ≡ Some (Start i) → ⊥
half_is_start slot i half start = cc

-- no instruction begins between an instruction and the next slot
pub none_between : WideHasSecondHalf → (code : List Slot) (slot k : ℕ) (i : Instruction)
    → IsCode code → slice_get code slot ≡ Some (Start i) → slot < k → k < slot + size i
    → Begins code k → ⊥
none_between second code slot k i is_code here above below begins =
    ⊎_elim
    (λ (one : (size i ≡ 1) × (is_wide i ≡ false)). absurd (omega (arith, one.0)))
    (λ (two : (size i ≡ 2) × (is_wide i ≡ true)).
    let at : k ≡ slot + 1 = omega (arith, two.0) in
    half_is_start (slice_get code (slot + 1)) begins.0 (second code slot i is_code here two.1)
    (rw (← at) begins.1))
    (sizes (is_wide i) i refl)

starts : (is : List Instruction) → (0 ≡ length (flat_map slots_of is))
    ⊎ Begins (flat_map slots_of is) 0
starts [] = inl refl
starts (j ∷ js) = inr (j, refl)

pub code_begins : (code : List Slot) → IsCode code → Begins code 0
code_begins code is =
    let some : 1 ≤ length (flat_map slots_of is.whole.instructions) =
    rw is.whole.slots_are at is.some in
    rw is.whole.slots_are (⊎_elim (λ (none : 0 ≡ length (flat_map slots_of is.whole.instructions)).
    absurd (omega (arith, none, some)))
    (λ (begins : Begins (flat_map slots_of is.whole.instructions) 0). begins)
    (starts is.whole.instructions))

module _ {D : Type 0} (contains : D → ℕ → Type 0) (code : List Slot) (hook : Hook)
    (segment_starts : List (Option (SegmentStart D))) (entry : SegmentStart D) where
  -- a new segment starts at a statement's slot
  stated_visit : {segment other : SegmentStart D} {input : Given} {start now : Machine}
      → segment_start_at segment_starts now.slot ≡ Some segment
      → Visits contains (setting_of code hook input) segment_starts entry other start now
      → (segment ≡ other) × SegmentStartHolds contains segment start × (start ≡ now)
  stated_visit stated (at_entry first unstated holds) =
      absurd (none-some _ (sym unstated ∙ stated))
  stated_visit {segment} {other} {input} {start} stated (at_statement other_stated holds) =
      let same = same_Some segment other (sym stated ∙ other_stated) in
      (same, subst (λ t. SegmentStartHolds contains t start) (sym same) holds, refl)
  stated_visit stated (falls now label i visit is_at does behind unstated) =
      absurd (none-some _ (sym unstated ∙ stated))

  -- what is known of a segment's first state
  known_at_start : {segment : SegmentStart D} {known : Known D} {start now : Machine}
      → known.is_live ≡ true → ((machine : Machine) → SegmentStartHolds contains segment machine
      → StateHolds contains known.state machine machine) → SegmentStartHolds contains segment start
      → start ≡ now → Knows contains segment known start now
  known_at_start {segment} {known} {start} {now} live own holds same = record {
    live = live;
    is_known = record {
      begins = holds;
      holds = subst (λ m. StateHolds contains known.state start m) same (own start holds);
    };
  }

  pub current_stated : {slot : ℕ} {segment : SegmentStart D} {known : Known D}
      → segment_start_at segment_starts slot ≡ Some segment → known.is_live ≡ true
      → ((machine : Machine) → SegmentStartHolds contains segment machine
      → StateHolds contains known.state machine machine)
      → IsCurrent contains code hook segment_starts entry slot segment known
  current_stated {slot} {segment} {known} stated live own = record {
    visits = λ input other start now visit there.
        let here : segment_start_at segment_starts now.slot ≡ Some segment = rw there stated in
        let found = stated_visit here visit in
        (found.0, known_at_start live own found.1 found.2);
  }

  next_leads : (segment : SegmentStart D) (slot : ℕ) (i : Instruction) (after : Known D)
      (start next : Machine) → EntersNext contains segment_starts segment slot start next
      ⊎ FallsThrough contains segment_starts segment slot i after start next
      → EntersNext contains segment_starts segment slot start next
      ⊎ ((next.slot ≡ slot + size i) × (segment_start_at segment_starts next.slot ≡ None))
  next_leads segment slot i after start next (inl enters) = inl enters
  next_leads segment slot i after start next (inr through) = inr (through.behind, through.unstated)

  pub current_fine : {slot : ℕ} {segment : SegmentStart D} (known after : Known D) (i : Instruction)
      → slice_get code slot ≡ Some (Start i)
      → IsCurrent contains code hook segment_starts entry slot segment known
      → (known.is_live ≡ true → IsFollowed contains code hook segment_starts segment slot i
      known.state after) → IsFine contains code hook segment_starts entry slot
  current_fine {slot} {segment} known after i here current passed = record {
    free = λ input other start now fault visit there stuck.
        let found = current.visits input other start now visit there in
        (passed found.1.live).free input start now fault there found.1.is_known.holds stuck;
    leads_on = λ input other start now next label j visit there is_at does.
        let found = current.visits input other start now visit there in
        let same : j ≡ i = same_instruction j i is_at (rw there here) in
        let did : Does i (setting_of code hook input) now label next =
        subst (λ k. Does k (setting_of code hook input) now label next) same does in
        let goes = (passed found.1.live).goes_on input start now next label there found.1.is_known
        did in
        let leads : LeadsOn contains code segment_starts segment slot i start next = record {
          begins = goes.begins;
          leads = next_leads segment slot i after start next goes.goes;
        } in
        subst (λ (s : SegmentStart D). LeadsOn contains code segment_starts s slot j start next)
        found.0
        (subst (λ k. LeadsOn contains code segment_starts segment slot k start next) (sym same)
        leads);
  }

  -- a step to a slot without a statement is no jump
  through_only : (segment : SegmentStart D) (slot : ℕ) (i : Instruction) (after : Known D)
      (start next : Machine) → segment_start_at segment_starts next.slot ≡ None
      → EntersNext contains segment_starts segment slot start next
      ⊎ FallsThrough contains segment_starts segment slot i after start next
      → Knows contains segment after start next
  through_only segment slot i after start next unstated (inl enters) =
      absurd (subst (λ o. IsSomeAnd o (λ target. Enters contains (nat_le next.slot slot) segment
      target start next)) unstated enters)
  through_only segment slot i after start next unstated (inr through) = through.knows

  -- A visit of the next slot comes from the instruction that ends there, and there is only one.
  next_visit : {slot : ℕ} {segment other : SegmentStart D} {input : Given} {start next : Machine}
      (known after : Known D) (i : Instruction) → OneEndsAtASlot → IsCode code
      → slice_get code slot ≡ Some (Start i)
      → segment_start_at segment_starts (slot + size i) ≡ None
      → IsCurrent contains code hook segment_starts entry slot segment known
      → (known.is_live ≡ true → IsFollowed contains code hook segment_starts segment
      slot i
      known.state after) → Visits contains (setting_of code hook input) segment_starts
      entry other start next → next.slot ≡ slot + size i
      → (segment ≡ other) × Knows contains segment after start next
  next_visit known after i one is_code here unstated current passed (at_entry first still holds)
      there = let some = size_some i in absurd (omega (arith, first, there, some))
  next_visit {slot} {segment} {other} {input} {start} known after i one is_code here unstated
      current passed (at_statement stated holds) there =
      let still : segment_start_at segment_starts start.slot ≡ None = rw there unstated in
      absurd (none-some _ (sym still ∙ stated))
  next_visit {slot} {segment} {other} {input} {start} {next} known after i one is_code here unstated
      current passed (falls now label j visit is_at does behind still) there =
      let at : now.slot ≡ slot = one code now.slot slot j i is_code is_at here (sym behind ∙ there)
      in
      let same : j ≡ i = same_instruction j i is_at (rw at here) in
      let did : Does i (setting_of code hook input) now label next =
      subst (λ k. Does k (setting_of code hook input) now label next) same does in
      let found = current.visits input other start now visit at in
      let goes = (passed found.1.live).goes_on input start now next label at found.1.is_known did in
      (found.0, through_only segment slot i after start next still goes.goes)

  pub next_current : {slot : ℕ} {segment : SegmentStart D} (known after : Known D) (i : Instruction)
      → OneEndsAtASlot → IsCode code → slice_get code slot ≡ Some (Start i)
      → IsCurrent contains code hook segment_starts entry slot segment known
      → (known.is_live ≡ true → IsFollowed contains code hook segment_starts segment slot i
      known.state after) → IsCurrentUnlessStated contains code hook segment_starts entry
      (slot + size i) segment after
  next_current known after i one is_code here current passed unstated = record {
    visits = λ input other start next visit there. next_visit known after i one is_code here
        unstated current passed visit there;
  }

  -- the entry's slot
  entry_visit : {other : SegmentStart D} {input : Given} {start now : Machine}
      → segment_start_at segment_starts 0 ≡ None
      → Visits contains (setting_of code hook input) segment_starts entry
      other start now → now.slot ≡ 0 → (entry ≡ other) × SegmentStartHolds contains entry start
      × (start ≡ now)
  entry_visit unstated (at_entry first still holds) there = (refl, holds, refl)
  entry_visit {other} {input} {start} unstated (at_statement stated holds) there =
      let still : segment_start_at segment_starts start.slot ≡ None = rw there unstated in
      absurd (none-some _ (sym still ∙ stated))
  entry_visit unstated (falls now label i visit is_at does behind still) there = let some =
      size_some i in absurd (omega (arith, behind, there, some))

  pub entry_current : {known : Known D} → known.is_live ≡ true
      → ((machine : Machine) → SegmentStartHolds contains entry machine
      → StateHolds contains known.state machine machine)
      → IsCurrentUnlessStated contains code hook segment_starts entry 0 entry known
  entry_current live own unstated = record {
    visits = λ input other start now visit there.
        let found = entry_visit unstated visit there in
        (found.0, known_at_start live own found.1 found.2);
  }

  -- a statement, if the slot has one, else what comes from the slot before
  arrived_at : (slot : ℕ) (begun here : Option ℕ) (known found : Known D)
      → IsCurrentUnlessStated contains code hook segment_starts entry slot
      (segment_of segment_starts entry begun)
      known → (stated : Option (SegmentStart D)) → segment_start_at segment_starts slot ≡ stated
      → MatchOption stated ((here ≡ begun) × (found ≡ known))
      (λ segment. (here ≡ Some slot) × (found.is_live ≡ true)
      × ((machine : Machine) → SegmentStartHolds contains segment machine
      → StateHolds contains found.state machine machine))
      → IsCurrent contains code hook segment_starts entry slot
      (segment_of segment_starts entry here) found
  arrived_at slot begun here known found current None unstated same =
      subst (λ (b : Option ℕ). IsCurrent contains code hook segment_starts entry slot
      (segment_of segment_starts entry b) found) (sym same.0)
      (subst (λ (k : Known D). IsCurrent contains code hook segment_starts entry slot
      (segment_of segment_starts entry begun) k) (sym same.1) (current unstated))
  arrived_at slot begun here known found current (Some segment) stated new =
      let own : IsCurrent contains code hook segment_starts entry slot segment found =
      current_stated stated new.1 new.2 in
      let same : unwrap_or (segment_start_at segment_starts slot) entry ≡ segment =
      rw stated refl in
      subst (λ (b : Option ℕ). IsCurrent contains code hook segment_starts entry slot
      (segment_of segment_starts entry b) found) (sym new.0)
      (subst (λ (t : SegmentStart D). IsCurrent contains code hook segment_starts entry slot t
      found)
      (sym same)
      own)

  pub arrived : (slot : ℕ) (begun here : Option ℕ) (known found : Known D)
      → IsCurrentUnlessStated contains code hook segment_starts entry slot
      (segment_of segment_starts entry begun)
      known → MatchOption (segment_start_at segment_starts slot) ((here ≡ begun) × (found ≡ known))
      (λ segment. (here ≡ Some slot) × (found.is_live ≡ true)
      × ((machine : Machine) → SegmentStartHolds contains segment machine
      → StateHolds contains found.state machine machine))
      → IsCurrent contains code hook segment_starts entry slot
      (segment_of segment_starts entry here) found
  arrived slot begun here known found current there =
      arrived_at slot begun here known found current (segment_start_at segment_starts slot) refl
      there

  -- the slots up to the next instruction
  pub fine_more : WideHasSecondHalf → IsCode code → (slot : ℕ) (i : Instruction)
      → slice_get code slot ≡ Some (Start i)
      → ((k : ℕ) → k < slot → Begins code k → IsFine contains code hook segment_starts entry k)
      → IsFine contains code hook segment_starts entry slot → (k : ℕ) → k < slot + size i
      → Begins code k → IsFine contains code hook segment_starts entry k
  fine_more second is_code slot i here before this k below begins =
      ⊎_elim
      (λ (low : k < slot). before k low begins)
      (λ (high : slot ≤ k). ⊎_elim
      (λ (above : slot < k). absurd (none_between second code slot k i is_code here above below
      begins))
      (λ (same : k ≤ slot). let at : slot ≡ k = omega arith in
      subst (λ n. IsFine contains code hook segment_starts entry n) at this)
      (cases_lt slot k))
      (cases_lt k slot)
