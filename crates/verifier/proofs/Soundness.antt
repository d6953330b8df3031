-- A program whose slots are all fine is safe, and its loads and stores access the recorded regions.
use Rattle.std.proofs.Common.{◌≡◌, ℕ, suc, ◌+◌, ◌-◌, ◌*◌, ◌<◌, ◌≤◌, true, false, List, [], ◌∷◌}
use Rattle.std.proofs.Common.{Option, Some, None, ⊎_elim, refl, sym, subst, ◌∙◌, length, arith}
use Rattle.std.specs.Prelude.{nat_le, if◌then◌else◌}
use Rattle.std.proofs.Math.Nat.{mul-le-mul_left}
use Rattle.std.proofs.lemmas.Bool.{cases_lt}
use Rattle.std.proofs.lemmas.Bool.Decides.{nat_tests}
use Rattle.std.proofs.lemmas.Option.{none-some, same_Some}
use Rattle.isa.specs.declared.code.Slot.{Slot}
use Rattle.isa.specs.declared.hook.Hook.{Hook}
use Rattle.isa.specs.Flow.{Begins, size}
use Rattle.machine.specs.declared.fault.Fault.{Fault}
use Rattle.machine.specs.declared.state.State.{State as Machine}
use Rattle.machine.specs.Label.{Label}
use Rattle.machine.specs.State.{Setting, start}
use Rattle.machine.specs.Steps.{Step}
use Rattle.machine.specs.Faults.{Stuck}
use Rattle.machine.specs.Runs.{Leads, Run, Safe}
use Rattle.kinds.specs.declared.statement.SegmentStart.{SegmentStart}
use Rattle.kinds.specs.Meaning.{SegmentStartHolds}
use Rattle.kinds.specs.Stated.{GivesStated, MeetsStatement}
use Rattle.object.specs.Statements.{StatementParts}
use Rattle.verifier.specs.Lines.{rank_value}
use Rattle.machine.specs.declared.regions.Region.{Region}
use Rattle.machine.specs.Regions.{AreRecordedRegions, IsRecordedAt}
use Rattle.transfer.specs.Given.{Given, setting_of}
use Rattle.verifier.specs.Places.{segment_start_at}
use Rattle.verifier.specs.Segments.{Visits, at_entry, at_statement, falls, Enters, EntersNext}
use Rattle.verifier.specs.Segments.{IsFine}
use Rattle.verifier.specs.SegmentsStated.{AreSegmentStarts, MeetStatements}
use Rattle.verifier.proofs.SegmentStarts.{segment_start_of_stated}
use Rattle.verifier.proofs.Made.{inside_code, some_and}
use Rattle.verifier.specs.Kept.{HasRecordedRegion}
use Rattle.verifier.specs.Stated.{RunsMeetStatements}
use Rattle.verifier.proofs.SegmentLemmas.{size_some}

-- The steps that are left: the rank counts the passes over the code that are left, and the slot
-- what is left of this one.
Left : ℕ → ℕ → ℕ → ℕ
Left slots rank slot = rank * slots + (slots - slot)

-- one step to a later slot of the same rank or less
left_on : (slots rank rank' slot to : ℕ) → slot < to → to < slots → rank' ≤ rank
    → suc (Left slots rank' to) ≤ Left slots rank slot
unfolding Left
left_on slots rank rank' slot to later inside below = omega (arith, mul-le-mul_left slots below)

-- one step back, to a lower rank
left_back : (slots rank rank' slot to : ℕ) → slot < slots → rank' < rank
    → suc (Left slots rank' to) ≤ Left slots rank slot
unfolding Left
left_back slots rank rank' slot to inside below = omega (arith, mul-le-mul_left slots below)

-- a step in either direction
left_jump : (slots rank rank' slot to : ℕ) → slot < slots → to < slots
    → rank' + (if nat_le to slot then 1 else 0) ≤ rank
    → suc (Left slots rank' to) ≤ Left slots rank slot
left_jump slots rank rank' slot to inside inside' below =
    ⊎_elim
    (λ (later : slot < to).
    let forward : nat_le to slot ≡ false = grind (arith, nat_tests) in
    let same : rank' ≤ rank = omega (arith, rw forward at below) in
    left_on slots rank rank' slot to later inside' same)
    (λ (back : to ≤ slot).
    let backward : nat_le to slot ≡ true = grind (arith, nat_tests) in
    let less : rank' < rank = omega (arith, rw backward at below) in
    left_back slots rank rank' slot to inside less)
    (cases_lt slot to)

-- a visit of a slot with a statement is as stated there
visited_as_stated : {D : Type 0} (contains : D → ℕ → Type 0) (setting : Setting)
    (segment_starts : List (Option (SegmentStart D))) (entry segment here : SegmentStart D)
    (begin now : Machine) → Visits contains setting segment_starts entry segment begin now
    → segment_start_at segment_starts now.slot ≡ Some here → SegmentStartHolds contains here now
visited_as_stated contains setting segment_starts entry segment here begin now
    (at_entry zeroth unstated holds) stated =
    absurd (none-some here (sym unstated ∙ stated))
visited_as_stated contains setting segment_starts entry segment here begin now
    (at_statement is holds)
    stated = subst (λ t. SegmentStartHolds contains t begin)
    (same_Some segment here (sym is ∙ stated)) holds
visited_as_stated contains setting segment_starts entry segment here begin now
    (falls before label i visit at does behind unstated) stated =
    absurd (none-some here (sym unstated ∙ stated))

module _ {D : Type 0} (contains : D → ℕ → Type 0) (code : List Slot) (hook : Hook)
    (segment_starts : List (Option (SegmentStart D))) (entry : SegmentStart D) (limit : ℕ)
    (input : Given)
  where
    -- the machine is in a segment, at an instruction, and has steps left
    record Reached (steps : ℕ) (machine : Machine) : Type 0 where
      segment : SegmentStart D
      begin : Machine
      visit : Visits contains (setting_of code hook input) segment_starts entry segment begin
          machine
      begins : Begins code machine.slot
      bounded : steps + Left (length code) (rank_value segment.statement.now.rank begin)
          machine.slot
          ≤ limit

    -- a step from there leads there
    reached_next : (steps : ℕ) (now next : Machine) (label : Label)
        → ((slot : ℕ) → Begins code slot → IsFine contains code hook segment_starts entry slot)
        → Reached steps now → Step (setting_of code hook input) now label next
        → Reached (suc steps) next
    reached_next steps now next label fine reached step =
        let leads = (fine now.slot reached.begins).leads_on input reached.segment reached.begin now
        next label step.instruction reached.visit refl step.at step.does in
        let inside = inside_code code now.slot reached.begins in
        let inside' = inside_code code next.slot leads.begins in
        ⊎_elim
        (λ (enters : EntersNext contains segment_starts reached.segment now.slot reached.begin
        next).
        let target = some_and {P = λ t. Enters contains (nat_le next.slot now.slot)
        reached.segment t
        reached.begin next} (segment_start_at segment_starts next.slot) enters in
        let less = left_jump (length code)
        (rank_value reached.segment.statement.now.rank reached.begin)
        (rank_value target.0.statement.now.rank next) now.slot next.slot inside inside'
        target.2.rank in
        let result : Reached (suc steps) next = record {
          segment = target.0;
          begin = next;
          visit = at_statement target.1 target.2.holds;
          begins = leads.begins;
          bounded = omega (arith, less, reached.bounded);
        } in
        result)
        (λ (through : (next.slot ≡ now.slot + size step.instruction)
        × (segment_start_at segment_starts next.slot ≡ None)).
        let some = size_some step.instruction in
        let less = left_on (length code)
        (rank_value reached.segment.statement.now.rank reached.begin)
        (rank_value reached.segment.statement.now.rank reached.begin) now.slot next.slot
        (omega (arith, through.0, some)) inside' (omega arith) in
        let result : Reached (suc steps) next = record {
          segment = reached.segment;
          begin = reached.begin;
          visit = falls now label step.instruction reached.visit step.at step.does through.0
              through.1;
          begins = leads.begins;
          bounded = omega (arith, less, reached.bounded);
        } in
        result)
        leads.leads

    -- so every run stays there
    reached_along : ((slot : ℕ) → Begins code slot
        → IsFine contains code hook segment_starts entry slot)
        → (labels : List Label) (steps : ℕ) (now end : Machine) → Reached steps now
        → Leads (setting_of code hook input) now labels end
        → Reached (steps + length labels) end
    reached_along fine [] steps now end reached same =
        let sum : steps + 0 ≡ steps = omega arith in
        rw sum (subst (λ m. Reached steps m) same reached)
    reached_along fine (label ∷ labels) steps now end reached leads =
        let next = reached_next steps now leads.0 label fine reached leads.1 in
        let later = reached_along fine labels (suc steps) leads.0 end next leads.2 in
        let sum : steps + suc (length labels) ≡ suc steps + length labels = omega arith in
        rw sum later

    -- the entry goes into its own segment, or into the statement of slot 0
    first_reached : Begins code 0 → SegmentStartHolds contains entry start
        → ((target : SegmentStart D) → segment_start_at segment_starts 0 ≡ Some target
        → Enters contains false entry target start start)
        → (rank_value entry.statement.now.rank start + 1) * length code ≤ limit
        → (stated : Option (SegmentStart D))
        → segment_start_at segment_starts 0 ≡ stated → Reached 0 start
    first_reached begins holds edge room None unstated = record {
      segment = entry;
      begin = start;
      visit = at_entry refl unstated holds;
      begins = begins;
      bounded = unfold Left in omega (arith, room);
    }
    first_reached begins holds edge room (Some target) stated =
        let enters = edge target stated in
        record {
          segment = target;
          begin = start;
          visit = at_statement stated enters.holds;
          begins = begins;
          bounded = unfold Left in omega (
            arith,
            room,
            enters.rank,
            mul-le-mul_left (length code) enters.rank,
          );
        }

    pub met : ((slot : ℕ) → Begins code slot → IsFine contains code hook segment_starts entry slot)
        → Begins code 0 → SegmentStartHolds contains entry start
        → ((target : SegmentStart D) → segment_start_at segment_starts 0 ≡ Some target
        → Enters contains false entry target start start)
        → (rank_value entry.statement.now.rank start + 1) * length code ≤ limit
        → (m : ℕ) (labels : List Label) (s : Machine)
        → Run (setting_of code hook input) m labels s
        → (m < limit) × ((fault : Fault)
        → Stuck (setting_of code hook input) s fault → ⊥)
    unfolding Left
    met fine begins holds edge room m labels s run =
        let reached = reached_along fine labels 0 start s
        (first_reached begins holds edge room (segment_start_at segment_starts 0) refl) run.leads in
        let inside = inside_code code s.slot reached.begins in (
          omega (arith, run.steps, reached.bounded, inside),
          λ fault stuck. (fine s.slot reached.begins).free input reached.segment reached.begin s
              fault reached.visit refl stuck,
        )

    pub met_stated : ((slot : ℕ) → Begins code slot
        → IsFine contains code hook segment_starts entry slot) → Begins code 0
        → SegmentStartHolds contains entry start
        → ((target : SegmentStart D) → segment_start_at segment_starts 0 ≡ Some target
        → Enters contains false entry target start start)
        → (rank_value entry.statement.now.rank start + 1) * length code ≤ limit
        → (m : ℕ) (labels : List Label) (s : Machine)
        → Run (setting_of code hook input) m labels s
        → (here : SegmentStart D)
        → segment_start_at segment_starts s.slot ≡ Some here
        → SegmentStartHolds contains here s
    met_stated fine begins holds edge room m labels s run here stated =
        let reached = reached_along fine labels 0 start s
        (first_reached begins holds edge room (segment_start_at segment_starts 0) refl) run.leads in
        visited_as_stated contains (setting_of code hook input) segment_starts entry reached.segment
        here
        reached.begin s reached.visit stated

    pub met_kept : ((slot : ℕ) → Begins code slot
        → IsFine contains code hook segment_starts entry slot) → Begins code 0
        → SegmentStartHolds contains entry start
        → ((target : SegmentStart D) → segment_start_at segment_starts 0 ≡ Some target
        → Enters contains false entry target start start)
        → (rank_value entry.statement.now.rank start + 1) * length code ≤ limit
        → (kept : List Region) → ((slot : ℕ) → Begins code slot
        → HasRecordedRegion contains code hook segment_starts entry kept slot)
        → (m : ℕ) (labels : List Label) (s : Machine)
        → Run (setting_of code hook input) m labels s
        → IsRecordedAt (setting_of code hook input) kept s
    met_kept fine begins holds edge room kept keeps m labels s run =
        let reached = reached_along fine labels 0 start s
        (first_reached begins holds edge room (segment_start_at segment_starts 0) refl) run.leads in
        (keeps s.slot reached.begins).keeps input reached.segment reached.begin s reached.visit refl

-- A program that the verifier accepts is safe.
pub safe_program : {D : Type 0} (contains : D → ℕ → Type 0) (code : List Slot) (hook : Hook)
    (segment_starts : List (Option (SegmentStart D))) (entry : SegmentStart D) (rank : ℕ)
    → Begins code 0 → SegmentStartHolds contains entry start
    → rank_value entry.statement.now.rank start ≡ rank
    → ((target : SegmentStart D) → segment_start_at segment_starts 0 ≡ Some target
    → Enters contains false entry target start start)
    → ((slot : ℕ) → Begins code slot
    → IsFine contains code hook segment_starts entry slot)
    → Safe code hook ((rank + 1) * length code)
safe_program contains code hook segment_starts entry rank begins holds rank_is edge fine =
    λ input m labels s run. met contains code hook segment_starts entry ((rank + 1) * length code)
    input
    fine begins holds edge (rw rank_is (omega arith)) m labels s run

-- And the regions that it recorded are those of the program's loads and stores.
pub kept_regions : {D : Type 0} (contains : D → ℕ → Type 0) (code : List Slot) (hook : Hook)
    (segment_starts : List (Option (SegmentStart D))) (entry : SegmentStart D) → Begins code 0
    → SegmentStartHolds contains entry start
    → ((target : SegmentStart D) → segment_start_at segment_starts 0 ≡ Some target
    → Enters contains false entry target start start)
    → ((slot : ℕ) → Begins code slot → IsFine contains code hook segment_starts entry slot)
    → (kept : List Region) → ((slot : ℕ) → Begins code slot
    → HasRecordedRegion contains code hook segment_starts entry kept slot)
    → AreRecordedRegions code hook kept
kept_regions contains code hook segment_starts entry begins holds edge fine kept keeps =
    λ input m labels s run. met_kept contains code hook segment_starts entry
    ((rank_value entry.statement.now.rank start + 1) * length code) input fine begins holds edge
    (omega arith) kept keeps m labels s run

-- And each run that reaches a slot with a statement is as stated there.
pub runs_as_stated : {D : Type 0} (contains : D → ℕ → Type 0) (gives : GivesStated D)
    (code : List Slot) (hook : Hook) (segment_starts : List (Option (SegmentStart D)))
    (entry : SegmentStart D) → Begins code 0 → SegmentStartHolds contains entry start
    → ((target : SegmentStart D) → segment_start_at segment_starts 0 ≡ Some target
    → Enters contains false entry target start start)
    → ((slot : ℕ) → Begins code slot → IsFine contains code hook segment_starts entry slot)
    → (statements : List StatementParts)
    → AreSegmentStarts contains statements segment_starts
    → MeetStatements contains gives segment_starts
    → RunsMeetStatements contains gives code hook statements
runs_as_stated contains gives code hook segment_starts entry begins holds edge fine statements are
    meet =
    λ input n labels machine statement run stated.
    let there = segment_start_of_stated contains statements segment_starts machine.slot statement
    are stated in
    let as_stated = met_stated contains code hook segment_starts entry
    ((rank_value entry.statement.now.rank start + 1) * length code) input fine begins holds edge
    (omega arith) n labels machine run there.0 there.1 in
    subst (λ s. MeetsStatement contains gives s machine) there.2.same
    (meet machine.slot there.0 there.1 machine as_stated)
