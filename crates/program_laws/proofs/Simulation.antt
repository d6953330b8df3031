-- Each run of counted code follows one of the code.
use Rattle.std.proofs.Common.{◌≡◌, ℕ, zero, suc, ◌+◌, ◌-◌, ◌*◌, ◌^◌, ◌%◌, ◌<◌, ◌≤◌, ℤ, pos, List}
use Rattle.std.proofs.Common.{[], ◌∷◌, ◌++◌, length, refl, sym, ap, subst, ◌∙◌, Option, Some, None}
use Rattle.std.proofs.Common.{arith, true, false, Bool, ◌⊎◌, inl, inr, append_assoc}
use Rattle.std.specs.Prelude.{slice_get, slice_set, position, nat_le, ◌==◌, if◌then◌else◌}
use Rattle.std.proofs.lemmas.Option.{slice_get_within, slice_get_past}
use Rattle.std.proofs.lemmas.Bool.{le-leb, or_parts}
use borrow.Author.Tests.{leb-true}
use Rattle.isa.specs.declared.instruction.Instruction.{Instruction}
use Rattle.isa.specs.declared.instruction.Instruction.TheVariants as instructions
use Rattle.isa.specs.declared.instruction.Source.{Source}
use Rattle.isa.specs.declared.instruction.Operation.TheVariants as operations
use Rattle.isa.specs.declared.instruction.Test.{Test}
use Rattle.isa.specs.declared.instruction.Width.{Width}
use Rattle.isa.specs.declared.code.Slot.{Slot}
use Rattle.isa.specs.declared.code.Slot.TheVariants.{Start, SecondHalf}
use Rattle.isa.specs.declared.hook.Hook.{Hook}
use Rattle.isa.specs.Flow.{jump_target, slot_at_distance}
use Rattle.machine.specs.declared.fault.Fault.TheVariants.{Outside, HalfWide}
use Rattle.machine.specs.declared.state.Content.{Content}
use Rattle.machine.specs.declared.state.Content.TheVariants.{Number}
use Rattle.machine.specs.declared.state.State.{State}
use Rattle.machine.specs.Given.{Given}
use Rattle.machine.specs.Label.{Label, Silent, Add, Spent, Read, Cell, SetCell}
use Rattle.machine.specs.State.{Setting, setting_of, start, held, operand, after_jump, moved_on}
use Rattle.machine.specs.Steps.{Does, Step, Exits, IsAt, test_result}
use Rattle.machine.specs.Faults.{Stuck, fault_of_slot}
use Rattle.machine.specs.Runs.{Leads}
use Rattle.annotations.specs.CountedCode.{IsUnnamed, names, is_operand, place_of, detour_at}
use Rattle.annotations.specs.CountedCode.{distance_between, distance_of, with_distance_if_given}
use Rattle.annotations.specs.CountedCode.{with_number}
use Rattle.program_laws.specs.CountedRuns.{accesses, turns_of, turns_between, Leaves, IsRun}
use Rattle.program_laws.specs.CountedRuns.{IsRunWith}
use Rattle.std.specs.Prelude.{FitsSigned}
use Rattle.std.specs.Int.{w32}
use Rattle.program_laws.proofs.Codes.{fits_at, detour_is, Whole, all, later_is, distance_leads}
use Rattle.program_laws.proofs.Codes.{place_within}
use Rattle.program_laws.proofs.Frames.{later, follows, held_other, operand_other, differ, ahead}
use Rattle.program_laws.proofs.Turning.{step_by, exit_only, counting, counted_turn, filling_of}

-- ---- accesses

one_access : (label : Label) (labels : List Label) → accesses (label ∷ labels)
    ≡ accesses (label ∷ []) ++ accesses labels
one_access Silent labels = refl
one_access (Add k a) labels = refl
one_access Spent labels = refl
one_access (Read k w) labels = refl
one_access (Cell j w) labels = refl
one_access (SetCell j w) labels = refl

-- the same first label
after_one : (label : Label) (xs ys : List Label) → accesses xs ≡ accesses ys → accesses (label ∷ xs)
    ≡ accesses (label ∷ ys)
after_one label xs ys e = one_access label xs ∙ ap (λ l. accesses (label ∷ []) ++ l) e
    ∙ sym (one_access label ys)

after_one_more : (label : Label) (xs others ys : List Label) → accesses xs ++ others ≡ accesses ys
    → accesses (label ∷ xs) ++ others ≡ accesses (label ∷ ys)
after_one_more label xs others ys e =
    ap (λ l. l ++ others) (one_access label xs)
    ∙ append_assoc (accesses (label ∷ [])) (accesses xs) others
    ∙ ap (λ l. accesses (label ∷ []) ++ l) e ∙ sym (one_access label ys)

-- ---- one more step before a run

module _ (setting : Setting) (heads : List ℕ) (s next : State) (label : Label)
    (step : Step setting s label next) (answer word : ℕ)
    (rest labels : List Label) (same : accesses labels ≡ accesses (label ∷ rest)) where
  before : (turn most more : ℕ) → turns_between heads s next ≡ turn → more ≡ turn + most
      → IsRun setting heads next answer most rest word
      → IsRun setting heads s answer more labels word
  before turn most more e sum (inl a) = inl (record {
    labels = label ∷ a.labels;
    turns = turn + a.turns;
    last = a.last;
    leads = (next, step, a.turns, ap (λ n. n + a.turns) (sym e), a.leads);
    exits = a.exits;
    few = omega (arith, a.few, sum);
    same = after_one label a.labels rest a.same ∙ sym same;
  })
  before turn most more e sum (inr (inl (word_is, t))) = inr (inl (
    word_is,
    record {
      labels = label ∷ t.labels;
      last = t.last;
      leads = (next, step, most + 1, omega (arith, sum, e), t.leads);
      same = after_one label t.labels rest t.same ∙ sym same;
    },
  ))
  before turn most more e sum (inr (inr l)) = inr (inr (record {
    labels = label ∷ l.labels;
    turns = turn + l.turns;
    last = l.last;
    leads = (next, step, l.turns, ap (λ n. n + l.turns) (sym e), l.leads);
    stuck = l.stuck;
    few = omega (arith, l.few, sum);
    others = l.others;
    same = after_one_more label l.labels l.others rest l.same ∙ sym same;
  }))

-- ---- jumps to a head

by_order : (heads : List ℕ) (slot to place : ℕ) (le : Bool) → nat_le to slot ≡ le
    → (if le then position (λ head. head == to) heads else None) ≡ Some place → (to ≤ slot)
    × (position (λ head. head == to) heads ≡ Some place)
by_order heads slot to place true e found = (leb-true to slot e, found)
by_order heads slot to place false e found = cc

back_to : (heads : List ℕ) (slot to place : ℕ) → place_of heads slot (Some to) ≡ Some place
    → (to ≤ slot) × (position (λ head. head == to) heads ≡ Some place)
back_to heads slot to place e = by_order heads slot to place (nat_le to slot) refl e

-- What the code does when the counted code goes to count a turn, or continues.
record Turned (counter left : ℕ) (heads : List ℕ) (setting : Setting) (s : State) (i : Instruction)
    (place at : ℕ) (label : Label) (t : State) : Type 0 where
  next : State
  does : Does i setting s label next
  long : 10 ≤ length next.registers
  goes : ((next.slot ≤ s.slot) × (position (λ head. head == next.slot) heads ≡ Some place)
      × (t ≡ counting counter left next at))
      ⊎ ((place_of heads s.slot (Some next.slot) ≡ None) × (t ≡ later counter left next))

module _ (counter left : ℕ) (heads : List ℕ) (hook : Hook) (input : Given)
    (code counted : List Slot)
    (s : State) (whole : 10 ≤ length s.registers) (label : Label) (t : State) (place at : ℕ)
    (slot_near : s.slot < 2 ^ 62) (near : at < 2 ^ 62) where
  abbrev mine : Setting
  mine = setting_of counted hook input

  abbrev given : Setting
  given = setting_of code hook input

  abbrev distance : ℤ
  distance = distance_between (s.slot + 1) at

  there : slot_at_distance (s.slot + 1) distance ≡ at
  there = distance_leads (s.slot + 1) at (omega (arith, slot_near)) (omega (arith, near))

  jumped : (old : ℤ) → place_of heads s.slot (Some (slot_at_distance s.slot old)) ≡ Some place → t
      ≡ after_jump (later counter left s) distance → (slot_at_distance s.slot old ≤ s.slot)
      × (position (λ head. head == slot_at_distance s.slot old) heads ≡ Some place)
      × (t ≡ counting counter left (after_jump s old) at)
  jumped old back after =
      let found = back_to heads s.slot (slot_at_distance s.slot old) place back in (
        found.0,
        found.1,
        after ∙ ap (λ (slot : ℕ). record {
          slot = slot;
          registers = slice_set s.registers counter (Number left);
          stack = s.stack;
        })
            there,
      )

  branched : (width : Width) (test : Test) (a : ℕ) (right : Source) (old : ℤ) (taken : Bool)
      → test_result width test (held s a) (operand s right) ≡ Some taken → label ≡ Silent
      → place_of heads s.slot (Some (slot_at_distance s.slot old)) ≡ Some place → t
      ≡ (if taken then after_jump (later counter left s) distance else
      moved_on (later counter left s))
      → Turned counter left heads given s
      (instructions.Branch width test a right old) place at label t
  branched width test a right old true gives silent back after = record {
    next = after_jump s old;
    does = record { taken = true; gives = gives; silent = silent; after = refl };
    long = whole;
    goes = inl (jumped old back after);
  }
  branched width test a right old false gives silent back after = record {
    next = moved_on s;
    does = record { taken = false; gives = gives; silent = silent; after = refl };
    long = whole;
    goes = inr (ahead heads s.slot (s.slot + 1) (omega arith), after);
  }

  turned : (i : Instruction) → names counter i ≡ false
      → place_of heads s.slot (jump_target s.slot i) ≡ Some place
      → Does (with_distance_if_given i (Some distance)) mine (later counter left s) label t
      → Turned counter left heads given s i place at label t
  turned (instructions.Jump old) unnamed back h = record {
    next = after_jump s old;
    does = record { silent = h.silent; after = refl };
    long = whole;
    goes = inl (jumped old back h.after);
  }
  turned (instructions.LongJump old) unnamed back h = record {
    next = after_jump s old;
    does = record { silent = h.silent; after = refl };
    long = whole;
    goes = inl (jumped old back h.after);
  }
  turned (instructions.Branch width test a right old) unnamed back h =
      let no = or_parts (a == counter) (is_operand counter right) unnamed in
      let same = ap (λ c. test_result width test c (operand (later counter left s) right))
      (held_other counter left s a (differ a counter no.0))
      ∙ ap (λ c. test_result width test (held s a) c) (operand_other counter left s right no.1) in
      branched width test a right old h.taken (sym same ∙ h.gives) h.silent back h.after
  turned (instructions.Arithmetic width operation target source) unnamed back h = cc
  turned (instructions.Negate width target) unnamed back h = cc
  turned (instructions.SignExtend extension target source) unnamed back h = cc
  turned (instructions.Reorder order width target) unnamed back h = cc
  turned (instructions.Call number) unnamed back h = cc
  turned instructions.Exit unnamed back h = cc
  turned (instructions.Load size target base offset) unnamed back h = cc
  turned (instructions.Store size base offset source) unnamed back h = cc
  turned (instructions.LoadNumber target number) unnamed back h = cc
  turned (instructions.LoadMap target map offset) unnamed back h = cc

-- an instruction that jumps isn't EXIT, whatever the distance
no_exit : (heads : List ℕ) (slot place : ℕ) (distance : ℤ) (i : Instruction)
    → place_of heads slot (jump_target slot i) ≡ Some place
    → with_distance_if_given i (Some distance) ≡ instructions.Exit → ⊥
no_exit heads slot place distance (instructions.Jump old) back e = cc
no_exit heads slot place distance (instructions.LongJump old) back e = cc
no_exit heads slot place distance (instructions.Branch width test a right old) back e = cc
no_exit heads slot place distance other back e = cc

head_of : (heads : List ℕ) (slot : ℕ) (target : Option ℕ) (place : ℕ) → place_of heads slot target
    ≡ Some place → place < length heads
head_of heads slot None place e = cc
head_of heads slot (Some to) place e = place_within to heads place (back_to heads slot to place e).1

silently : (label : Label) (rest : List Label) (P : List Label → Type 0) → label ≡ Silent
    → P (accesses rest) → P (accesses (label ∷ rest))
silently label rest P e h = rw e h

-- ---- whole runs

module _ (answer counter turns : ℕ) (heads : List ℕ) (code : List Slot) (whole : Whole code)
    (hook : Hook) (input : Given) (sound : Whole (all answer counter turns heads code whole))
    (least : 6 ≤ counter) (greatest : counter ≤ 9) (unnamed : IsUnnamed code counter)
    (fits : 1 + length code + 4 * length heads ≤ 4096) where
  abbrev counted_setting : Setting
  counted_setting = setting_of (all answer counter turns heads code whole) hook input

  abbrev code_setting : Setting
  code_setting = setting_of code hook input

  fits_word : (n : ℕ) → FitsSigned w32 (pos n) → n < 2 ^ 31
  fits_word n fits = fits.sfits

  -- the answer and the turns fit into instructions
  small_answer : (to place : ℕ) → position (λ head. head == to) heads ≡ Some place → answer < 2 ^ 31
  small_answer to place found =
      fits_word answer (fits_at (all answer counter turns heads code whole) sound
      (detour_at (length code) place + 2) (with_number operations.Move 0 (pos answer))
      (detour_is answer counter turns heads code whole to place 2 found (omega arith))).1

  few_turns : turns + 1 < 2 ^ 31
  few_turns = fits_word (turns + 1)
      (fits_at (all answer counter turns heads code whole) sound 0
      (with_number operations.Move counter (pos (turns + 1))) refl).1

  outside : (s : State) → slice_get code s.slot ≡ None → Stuck code_setting s Outside
  outside s e = ap (fault_of_slot code_setting s) e

  halfway : (s : State) → slice_get code s.slot ≡ Some SecondHalf → Stuck code_setting s HalfWide
  halfway s e = ap (fault_of_slot code_setting s) e

  leaves_now : (s : State) (most : ℕ) (labels : List Label) → Stuck code_setting s Outside
      ⊎ Stuck code_setting s HalfWide → Leaves code_setting heads s most (accesses labels)
  leaves_now s most labels stuck = record {
    labels = [];
    turns = 0;
    last = s;
    leads = (refl, refl);
    stuck = stuck;
    few = omega arith;
    others = accesses labels;
    same = refl;
  }

  -- the property of each run of the counted code
  abbrev Shown : State → ℕ → List Label → State → ℕ → Type 0
  Shown s most labels last word = most < 2 ^ 60 → 10 ≤ length s.registers
      → Leads counted_setting (later counter (most + 1) s) labels last
      → Exits counted_setting last word → IsRun code_setting heads s answer most labels word

  module _ (s : State) (most : ℕ) (labels : List Label) (last : State) (word : ℕ)
      (few : most < 2 ^ 60) (long : 10 ≤ length s.registers)
      (shorter : (t : State) (n : ℕ) (rest : List Label) → length rest < length labels
      → Shown t n rest last word) where
    go_on : (next : State) (label : Label) (rest : List Label) (n turn : ℕ)
        → length rest < length labels → accesses labels ≡ accesses (label ∷ rest)
        → Step code_setting s label next → turns_between heads s next ≡ turn → most ≡ turn + n
        → 10 ≤ length next.registers → Leads counted_setting (later counter (n + 1) next)
        rest last → Exits counted_setting last word
        → IsRun code_setting heads s answer most labels word
    go_on next label rest n turn less same step is sum longer leads exits =
        before code_setting heads s next label step answer word rest labels same turn n most is sum
        (shorter next n rest less (omega (arith, sum, few)) longer leads exits)

    -- the code has jumped before its first slot
    jumps_out : (next : State) (label : Label) (rest : List Label) → accesses labels
        ≡ accesses (label ∷ rest) → Step code_setting s label next → turns_between heads s next ≡ 0
        → next.slot ≡ 2 ^ 64 - 1 → IsRun code_setting heads s answer most labels word
    jumps_out next label rest same step is out =
        before code_setting heads s next label step answer word rest labels same 0 most most is
        (omega arith)
        (inr (inr (leaves_now next most rest
        (inl (outside next (slice_get_past code next.slot (omega (arith, out, fits))))))))

    no_turn : (next : State) → place_of heads s.slot (Some next.slot) ≡ None
        → turns_between heads s next ≡ 0
    no_turn next e = ap turns_of e

    a_turn : (next : State) (place : ℕ) → (next.slot ≤ s.slot)
        → position (λ head. head == next.slot) heads ≡ Some place → turns_between heads s next ≡ 1
    a_turn next place le found = let yes : nat_le next.slot s.slot ≡ true =
        le-leb next.slot s.slot le in rw (yes, found) refl

    -- at an unchanged instruction
    at_same : (i : Instruction) → slice_get code s.slot ≡ Some (Start i)
        → place_of heads s.slot (jump_target s.slot i) ≡ None
        → IsAt counted_setting (later counter (most + 1) s) i → (ls : List Label) → labels ≡ ls
        → Leads counted_setting (later counter (most + 1) s) ls last
        → Exits counted_setting last word
        → IsRun code_setting heads s answer most labels word
    at_same i at straight stands [] is leads exits =
        let here = subst (λ (x : State). Exits counted_setting x word) (sym leads) exits in
        let exit : i ≡ instructions.Exit =
        exit_only counted_setting (later counter (most + 1) s) word i stands here in
        let answers : held s 0 ≡ Number word = sym (held_other counter (most + 1) s 0 (omega arith))
        ∙ here.answers in
        inl (record {
          labels = [];
          turns = 0;
          last = s;
          leads = (refl, refl);
          exits = record {
            at = at ∙ ap (λ (x : Instruction). Some (Start x)) exit;
            answers = answers;
          };
          few = omega arith;
          same = sym (ap accesses is);
        })
    at_same i at straight stands (label ∷ rest) is (t, step, leads) exits =
        let does = step_by counted_setting (later counter (most + 1) s) t label i stands step in
        let f = follows counter (most + 1) least heads hook input code
        (all answer counter turns heads code whole) s long label t i (unnamed s.slot i at)
        straight does in
        let mine : Step code_setting s label f.next = record {
          instruction = i;
          at = at;
          does = f.does;
        } in
        elim f.goes_on [
          | inl same ↦ go_on f.next label rest most 0 (omega (arith, ap length is)) (ap accesses is)
              mine (no_turn f.next f.straight) (omega arith) same.1
              (subst (λ (x : State). Leads counted_setting x rest last) same.0 leads) exits
          | inr out ↦ jumps_out f.next label rest (ap accesses is) mine (no_turn f.next f.straight)
              out
        ]

    goes_again : (place : ℕ) (next : State) (label : Label) (rest : List Label) → labels ≡ label
        ∷ rest → next.slot ≤ s.slot → position (λ head. head == next.slot) heads ≡ Some place
        → Step code_setting s label next → 10 ≤ length next.registers → (others : List Label)
        → accesses rest ≡ accesses others → length others < length rest → 1 ≤ most
        → Leads counted_setting (later counter most next) others last
        → Exits counted_setting last word
        → IsRun code_setting heads s answer most labels word
    goes_again place next label rest is back found mine longer others same less some leads exits =
        let fewer : (most - 1) + 1 ≡ most = omega (arith, some) in
        go_on next label others (most - 1) 1 (omega (arith, less, ap length is))
        (ap accesses is ∙ after_one label rest others same) mine (a_turn next place back found)
        (omega (arith, some)) longer
        (subst (λ (n : ℕ). Leads counted_setting (later counter n next) others last) (sym fewer)
        leads) exits

    -- when a turn is counted
    at_turn : (place : ℕ) (next : State) (label : Label) (rest : List Label) → labels ≡ label ∷ rest
        → s.slot < length code → next.slot ≤ s.slot → position (λ head. head == next.slot) heads
        ≡ Some place → Step code_setting s label next → 10 ≤ length next.registers
        → Leads counted_setting (counting counter (most + 1) next
        (detour_at (length code) place)) rest last → Exits counted_setting last word
        → IsRun code_setting heads s answer most labels word
    at_turn place next label rest is within back found mine longer leads exits =
        let less = place_within next.slot heads place found in
        let turn = counted_turn answer counter turns (small_answer next.slot place found) heads code
        whole hook input next.slot place found (omega (arith, less, fits))
        (omega (arith, within, fits, back))
        next refl (omega (arith, longer, greatest)) most rest last word (omega (arith, few)) leads
        exits in
        elim turn [
          | inl over ↦ inr (inl (
            over.2,
            record {
              labels = label ∷ [];
              last = next;
              leads = (
                next,
                mine,
                0,
                omega (arith, a_turn next place back found, over.0),
                (refl, refl),
              );
              same = after_one label [] rest (sym over.1) ∙ sym (ap accesses is);
            },
          ))
          | inr again ↦ goes_again place next label rest is back found mine longer again.0 again.1
              again.2 again.3 again.4 exits
        ]

    -- at an instruction that goes to count a turn
    at_jump : (i : Instruction) (place : ℕ) → slice_get code s.slot ≡ Some (Start i)
        → place_of heads s.slot (jump_target s.slot i) ≡ Some place
        → IsAt counted_setting (later counter (most + 1) s)
        (with_distance_if_given i (Some
        (distance_between (s.slot + 1) (detour_at (length code) place))))
        → (ls : List Label) → labels ≡ ls
        → Leads counted_setting (later counter (most + 1) s) ls last
        → Exits counted_setting last word
        → IsRun code_setting heads s answer most labels word
    at_jump i place at back stands [] is leads exits =
        let here = subst (λ (x : State). Exits counted_setting x word) (sym leads) exits in
        let exit = exit_only counted_setting (later counter (most + 1) s) word _ stands here in
        absurd (no_exit heads s.slot place
        (distance_between (s.slot + 1) (detour_at (length code) place)) i back exit)
    at_jump i place at back stands (label ∷ rest) is (t, step, leads) exits =
        let does = step_by counted_setting (later counter (most + 1) s) t label _ stands step in
        let within = slice_get_within code s.slot (Start i) at in
        let known = head_of heads s.slot (jump_target s.slot i) place back in
        let f = turned counter (most + 1) heads hook input code
        (all answer counter turns heads code whole) s long label t place
        (detour_at (length code) place)
        (omega (arith, within, fits)) (omega (arith, known, fits)) i (unnamed s.slot i at) back does
        in
        let mine : Step code_setting s label f.next = record {
          instruction = i;
          at = at;
          does = f.does;
        } in
        elim f.goes [
          | inl turn ↦ at_turn place f.next label rest is within turn.0 turn.1 mine f.long
              (subst (λ (x : State). Leads counted_setting x rest last) turn.2 leads) exits
          | inr on ↦ go_on f.next label rest most 0 (omega (arith, ap length is)) (ap accesses is)
              mine (no_turn f.next on.0) (omega arith) f.long
              (subst (λ (x : State). Leads counted_setting x rest last) on.1 leads) exits
        ]

    by_place : (i : Instruction) (found : Option ℕ) → place_of heads s.slot (jump_target s.slot i)
        ≡ found → slice_get code s.slot ≡ Some (Start i)
        → slice_get (all answer counter turns heads code whole) (s.slot + 1)
        ≡ Some (Start (with_distance_if_given i (distance_of (length code) s.slot found)))
        → Leads counted_setting (later counter (most + 1) s) labels last
        → Exits counted_setting last word
        → IsRun code_setting heads s answer most labels word
    by_place i None place at stands leads exits = at_same i at place stands labels refl leads exits
    by_place i (Some place) back at stands leads exits =
        at_jump i place at back stands labels refl leads exits

    by_slot : (found : Option Slot) → slice_get code s.slot ≡ found
        → Leads counted_setting (later counter (most + 1) s) labels last
        → Exits counted_setting last word → IsRun code_setting heads s answer most labels word
    by_slot None e leads exits = inr (inr (leaves_now s most labels (inl (outside s e))))
    by_slot (Some SecondHalf) e leads exits =
        inr (inr (leaves_now s most labels (inr (halfway s e))))
    by_slot (Some (Start i)) e leads exits =
        by_place i (place_of heads s.slot (jump_target s.slot i)) refl e
        (later_is answer counter turns heads code whole s.slot i e) leads exits

  simulated : (fuel : ℕ) (s : State) (most : ℕ) (labels : List Label) (last : State) (word : ℕ)
      → length labels ≤ fuel → Shown s most labels last word
  simulated zero s most labels last word enough few long leads exits =
      by_slot s most labels last word few long
      (λ t n rest less. absurd (omega (arith, less, enough))) (slice_get code s.slot) refl leads
      exits
  simulated (suc fuel) s most labels last word enough few long leads exits =
      by_slot s most labels last word few long
      (λ t n rest less. simulated fuel t n rest last word (omega (arith, less, enough)))
      (slice_get code s.slot) refl leads exits

  -- from the start, which sets the turns
  pub from_start : (labels : List Label) (last : State) (word : ℕ)
      → Leads counted_setting start labels last → Exits counted_setting last word
      → IsRun code_setting heads start answer turns labels word
  from_start [] last word leads exits =
      let here = subst (λ (x : State). Exits counted_setting x word) (sym leads) exits in
      let no = exit_only counted_setting start word
      (with_number operations.Move counter (pos (turns + 1))) refl here in cc
  from_start (label ∷ rest) last word (t, step, leads) exits =
      let h = step_by counted_setting start t label
      (with_number operations.Move counter (pos (turns + 1))) refl step in
      let low_is : (turns + 1) % 2 ^ 64 ≡ turns + 1 = omega (arith, few_turns) in
      let filling : h.filling ≡ Number (turns + 1) =
      rw low_is at (filling_of _ h.filling h.gives) in
      let begun : t ≡ later counter (turns + 1) start = h.after ∙ ap (λ (c : Content). record {
        slot = 1;
        registers = slice_set start.registers counter c;
        stack = start.stack;
      }) filling
      in
      let shown = simulated (length rest) start turns rest last word (omega arith)
      (omega (arith, few_turns)) (omega arith)
      (subst (λ (x : State). Leads counted_setting x rest last) begun leads) exits in
      silently label rest (λ (found : List Label). IsRunWith code_setting heads start answer turns
      found word) h.silent shown
