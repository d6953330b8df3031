-- A register that no instruction of the code names, and slots one later: each step of the code is
-- still possible.
use Rattle.std.proofs.Common.{◌≡◌, ◌≢◌, ℕ, zero, suc, ◌+◌, ◌^◌, ◌%◌, ◌<◌, ◌≤◌, ℤ, List, [], ◌∷◌}
use Rattle.std.proofs.Common.{length, drop, refl, sym, ap, ◌∙◌, Option, Some, None, arith, true}
use Rattle.std.proofs.Common.{false, Bool, ◌⊎◌, inl, inr, length-drop, ◌-◌}
use Rattle.std.specs.Prelude.{slice_set, nat_le, ◌==◌, if◌then◌else◌}
use Rattle.std.proofs.lemmas.Bool.{eq-eqb, or_parts}
use borrow.Author.Tests.{leb-true}
use Rattle.std.proofs.lemmas.Bool.Decides.{eqb_tells}
use Rattle.std.proofs.lemmas.List.{get_or-set_other, get_or-set_same, drop-set-add}
use Rattle.std.proofs.Math.ListN.{length-set}
use Rattle.isa.specs.declared.instruction.Instruction.{Instruction}
use Rattle.isa.specs.declared.instruction.Instruction.TheVariants as instructions
use Rattle.isa.specs.declared.instruction.Source.{Source}
use Rattle.isa.specs.declared.instruction.Source.TheVariants as sources
use Rattle.isa.specs.declared.instruction.LoadSize.{LoadSize}
use Rattle.isa.specs.declared.instruction.StoreSize.{StoreSize}
use Rattle.isa.specs.declared.code.Slot.{Slot}
use Rattle.isa.specs.declared.hook.Hook.{Hook}
use Rattle.isa.specs.declared.map.Map.TheVariants.{Counters, Cells}
use Rattle.isa.specs.declared.instruction.Width.{Width}
use Rattle.isa.specs.declared.instruction.Test.{Test}
use Rattle.isa.specs.Arithmetic.{widened_immediate, negated_number, sign_extended, in_byte_order}
use Rattle.isa.specs.Flow.{jump_target, slot_at_distance}
use Rattle.machine.specs.declared.state.Content.{Content}
use Rattle.machine.specs.declared.state.Content.TheVariants.{Nothing, Number, Address}
use Rattle.machine.specs.declared.state.Pointer.{Pointer}
use Rattle.machine.specs.declared.state.Pointer.TheVariants as pointers
use Rattle.machine.specs.declared.state.StackByte.{StackByte}
use Rattle.machine.specs.declared.state.State.{State}
use Rattle.machine.specs.Given.{Given}
use Rattle.machine.specs.Label.{Label, Silent}
use Rattle.machine.specs.State.{Setting, setting_of, held, operand, with_register, after_jump}
use Rattle.machine.specs.State.{moved_on}
use Rattle.machine.specs.Memory.{Loads, Stores}
use Rattle.machine.specs.Helpers.{state_after_call}
use Rattle.machine.specs.Steps.{Does, Fills, result_of, on_number, test_result}
use Rattle.annotations.specs.CountedCode.{names, is_operand, place_of}

-- the state of the counted code: one slot later, with the turns that are left
abbrev pub later : ℕ → ℕ → State → State
later counter left s = record {
  slot = s.slot + 1;
  registers = slice_set s.registers counter (Number left);
  stack = s.stack;
}

pub set_swap : (xs : List Content) (i j : ℕ) (a b : Content) → i ≢ j
    → slice_set (slice_set xs i a) j b ≡ slice_set (slice_set xs j b) i a
set_swap [] i j a b ne = refl
set_swap (x ∷ xs) zero zero a b ne = absurd (ne refl)
set_swap (x ∷ xs) zero (suc j) a b ne = refl
set_swap (x ∷ xs) (suc i) zero a b ne = refl
set_swap (x ∷ xs) (suc i) (suc j) a b ne =
    ap (λ l. x ∷ l) (set_swap xs i j a b (λ e. ne (ap suc e)))

pub differ : (a b : ℕ) → (a == b) ≡ false → a ≢ b
differ a b e same = let yes : (a == b) ≡ true = eq-eqb a b same in cc

module _ (counter left : ℕ) (s : State) where
  pub held_other : (register : ℕ) → register ≢ counter → held (later counter left s) register
      ≡ held s register
  held_other register ne = get_or-set_other s.registers counter register (Number left) Nothing ne

  pub held_counter : counter < length s.registers → held (later counter left s) counter
      ≡ Number left
  held_counter within = get_or-set_same s.registers counter (Number left) Nothing within

  pub operand_other : (source : Source) → is_operand counter source ≡ false
      → operand (later counter left s) source ≡ operand s source
  operand_other (sources.Immediate number) e = refl
  operand_other (sources.Register register) e = held_other register (differ register counter e)

  pub filled_later : (target : ℕ) (content : Content) → target ≢ counter
      → with_register (later counter left s) target content
      ≡ later counter left (with_register s target content)
  filled_later target content ne =
      let swapped = set_swap s.registers counter target (Number left) content (λ e. ne (sym e)) in
      ap (λ (registers : List Content). record {
        slot = (s.slot + 1) + 1;
        registers = registers;
        stack = s.stack;
      }) swapped

  pub loads_same : (size : LoadSize) (p : Pointer) (input : Given) (label : Label)
      (content : Content) → Loads size p input (later counter left s) label content
      → Loads size p input s label content
  loads_same size (pointers.Context a) input label content h = h
  loads_same size (pointers.Stack a) input label content h = h
  loads_same size (pointers.Map Counters a) input label content h = h
  loads_same size (pointers.Map Cells a) input label content h = h

  pub stores_same : (size : StoreSize) (p : Pointer) (content : Content) (label : Label)
      (stack : List StackByte) → Stores size p content (later counter left s) label stack
      → Stores size p content s label stack
  stores_same size (pointers.Stack a) (Number n) label stack h = h
  stores_same size (pointers.Stack a) (Address p) label stack h = h
  stores_same size (pointers.Stack a) Nothing label stack h = elim h [ ]
  stores_same size (pointers.Context a) content label stack h = elim h [ ]
  stores_same size (pointers.Map Counters a) content label stack h = elim h [ ]
  stores_same size (pointers.Map Cells a) (Number n) label stack h = h
  stores_same size (pointers.Map Cells a) (Address p) label stack h = elim h [ ]
  stores_same size (pointers.Map Cells a) Nothing label stack h = elim h [ ]

-- a call doesn't change r6 to r9
pub called_later : (registers : List Content) (counter : ℕ) (left answer : Content) → 6 ≤ counter
    → answer ∷ Nothing ∷ Nothing ∷ Nothing ∷ Nothing ∷ Nothing
    ∷ drop 6 (slice_set registers counter left)
    ≡ slice_set (answer ∷ Nothing ∷ Nothing ∷ Nothing ∷ Nothing ∷ Nothing ∷ drop 6 registers)
    counter left
called_later registers counter left answer least =
    let more : ℕ = counter - 6 in
    let is : 6 + more ≡ counter = omega arith in
    let each : suc (suc (suc (suc (suc (suc more))))) ≡ counter = omega arith in
    let rest : drop 6 (slice_set registers counter left) ≡ slice_set (drop 6 registers) more left =
    ap (λ n. drop 6 (slice_set registers n left)) (sym is) ∙ drop-set-add 6 registers more left in
    ap (λ l. answer ∷ Nothing ∷ Nothing ∷ Nothing ∷ Nothing ∷ Nothing ∷ l) rest
    ∙ ap (λ n. slice_set (answer ∷ Nothing ∷ Nothing ∷ Nothing ∷ Nothing ∷ Nothing
    ∷ drop 6 registers) n left) each

wraps : (a b : ℕ) → b ≡ a + 1 → (b % 2 ^ 64 ≡ a % 2 ^ 64 + 1) ⊎ (a % 2 ^ 64 ≡ 2 ^ 64 - 1)
wraps a b e = elim (eqb_tells (a % 2 ^ 64) (2 ^ 64 - 1)) [
  | inl last ↦ inr last.1
  | inr other ↦ inl (omega (arith, other.1))
]

-- a jump of the same distance leads one slot later, unless it leads before the first one
pub jumps_later : (slot : ℕ) (distance : ℤ)
    → (slot_at_distance (slot + 1) distance ≡ slot_at_distance slot distance + 1)
    ⊎ (slot_at_distance slot distance ≡ 2 ^ 64 - 1)
jumps_later slot distance = wraps (slot + 1 + widened_immediate distance)
    ((slot + 1) + 1 + widened_immediate distance) (omega arith)

le_by : (a b : ℕ) (le : Bool) → nat_le a b ≡ le → b < a → le ≡ false
le_by a b true e lt = absurd (omega (arith, leb-true a b e))
le_by a b false e lt = refl

le_no : (a b : ℕ) → b < a → nat_le a b ≡ false
le_no a b lt = le_by a b (nat_le a b) refl lt

-- a step to a later slot is no turn
pub ahead : (heads : List ℕ) (slot next : ℕ) → slot < next → place_of heads slot (Some next) ≡ None
ahead heads slot next lt = let no : nat_le next slot ≡ false = le_no next slot lt in rw no refl

-- ---- a step of an unchanged instruction

-- The code takes the step too, which is no turn; then the states correspond as before, or the code
-- has jumped before its first slot.
pub record Follows (counter left : ℕ) (heads : List ℕ) (setting : Setting) (s : State)
    (i : Instruction) (label : Label) (t : State) : Type 0 where
  pub next : State
  pub does : Does i setting s label next
  pub straight : place_of heads s.slot (Some next.slot) ≡ None
  pub goes_on : ((t ≡ later counter left next) × (10 ≤ length next.registers))
      ⊎ (next.slot ≡ 2 ^ 64 - 1)

module _ (counter left : ℕ) (least : 6 ≤ counter) (heads : List ℕ) (hook : Hook) (input : Given)
    (code counted : List Slot)
    (s : State) (whole : 10 ≤ length s.registers) (label : Label) (t : State) where
  abbrev mine : Setting
  mine = setting_of counted hook input

  abbrev given : Setting
  given = setting_of code hook input

  abbrev Result : Instruction → Type 0
  Result i = Follows counter left heads given s i label t

  abbrev Filled : ℕ → Option Content → Type 0
  Filled target content = (next : State) × Fills s target content label next
      × (next.slot ≡ s.slot + 1) × (t ≡ later counter left next) × (10 ≤ length next.registers)

  fills_follow : (target : ℕ) (found content : Option Content) → target ≢ counter → found ≡ content
      → Fills (later counter left s) target found label t → Filled target content
  fills_follow target found content ne e h = (
    with_register s target h.filling,
    record {
      filling = h.filling;
      gives = sym e ∙ h.gives;
      writable = h.writable;
      silent = h.silent;
      after = refl;
    },
    refl,
    h.after ∙ filled_later counter left s target h.filling ne,
    omega (arith, length-set s.registers target h.filling),
  )

  of_filled : (i : Instruction) (target : ℕ) (content : Option Content)
      → (f : Filled target content) → Does i given s label f.0 → Result i
  of_filled i target content f does = record {
    next = f.0;
    does = does;
    straight = ahead heads s.slot f.0.slot (omega (arith, f.2));
    goes_on = inl (f.3, f.4);
  }

  jumped : (distance : ℤ) → t ≡ after_jump (later counter left s) distance
      → ((t ≡ later counter left (after_jump s distance)) × (10 ≤ length s.registers))
      ⊎ (slot_at_distance s.slot distance ≡ 2 ^ 64 - 1)
  jumped distance after = elim (jumps_later s.slot distance) [
    | inl same ↦ inl (
      after ∙ ap (λ (slot : ℕ). record {
        slot = slot;
        registers = slice_set s.registers counter (Number left);
        stack = s.stack;
      })
          same,
      whole,
    )
    | inr out ↦ inr out
  ]

  branched : (width : Width) (test : Test) (a : ℕ) (right : Source) (distance : ℤ) (taken : Bool)
      → test_result width test (held s a) (operand s right) ≡ Some taken → label ≡ Silent
      → place_of heads s.slot (Some (slot_at_distance s.slot distance)) ≡ None → t
      ≡ (if taken then after_jump (later counter left s) distance else
      moved_on (later counter left s))
      → Result (instructions.Branch width test a right distance)
  branched width test a right distance true gives silent straight after = record {
    next = after_jump s distance;
    does = record { taken = true; gives = gives; silent = silent; after = refl };
    straight = straight;
    goes_on = jumped distance after;
  }
  branched width test a right distance false gives silent straight after = record {
    next = moved_on s;
    does = record { taken = false; gives = gives; silent = silent; after = refl };
    straight = ahead heads s.slot (s.slot + 1) (omega arith);
    goes_on = inl (after, whole);
  }

  two_later : (target : ℕ) (content : Content) → target ≢ counter
      → record {
        slot = (s.slot + 1) + 2;
        registers = slice_set (slice_set s.registers counter (Number left)) target content;
        stack = s.stack;
      }
      ≡ later counter left (record {
        slot = s.slot + 2;
        registers = slice_set s.registers target content;
        stack = s.stack;
      })
  two_later target content ne =
      let swapped = set_swap s.registers counter target (Number left) content (λ e. ne (sym e)) in
      let place : (s.slot + 1) + 2 ≡ (s.slot + 2) + 1 = omega arith in
      ap (λ (registers : List Content). record {
        slot = (s.slot + 1) + 2;
        registers = registers;
        stack = s.stack;
      }) swapped
      ∙ ap (λ (slot : ℕ). record {
        slot = slot;
        registers = slice_set (slice_set s.registers target content) counter
            (Number left);
        stack = s.stack;
      }) place

  pub follows : (i : Instruction) → names counter i ≡ false
      → place_of heads s.slot (jump_target s.slot i) ≡ None
      → Does i mine (later counter left s) label t → Result i
  follows (instructions.Arithmetic width operation target source) unnamed straight h =
      let no = or_parts (target == counter) (is_operand counter source) unnamed in
      let ne = differ target counter no.0 in
      let same = ap (λ c. result_of width operation c (operand (later counter left s) source))
      (held_other counter left s target ne)
      ∙ ap (λ c. result_of width operation (held s target) c)
      (operand_other counter left s source no.1) in
      let f = fills_follow target _ _ ne same h in of_filled _ target _ f f.1
  follows (instructions.Negate width target) unnamed straight h =
      let ne = differ target counter unnamed in
      let f = fills_follow target _ _ ne
      (ap (λ c. on_number (negated_number width) c) (held_other counter left s target ne)) h in
      of_filled _ target _ f f.1
  follows (instructions.SignExtend extension target source) unnamed straight h =
      let no = or_parts (target == counter) (source == counter) unnamed in
      let f = fills_follow target _ _ (differ target counter no.0)
      (ap (λ c. on_number (sign_extended extension) c)
      (held_other counter left s source (differ source counter no.1))) h in
      of_filled _ target _ f f.1
  follows (instructions.Reorder order width target) unnamed straight h =
      let ne = differ target counter unnamed in
      let f = fills_follow target _ _ ne
      (ap (λ c. on_number (in_byte_order order width) c) (held_other counter left s target ne))
      h in of_filled _ target _ f f.1
  follows (instructions.Jump distance) unnamed straight h = record {
    next = after_jump s distance;
    does = record { silent = h.silent; after = refl };
    straight = straight;
    goes_on = jumped distance h.after;
  }
  follows (instructions.LongJump distance) unnamed straight h = record {
    next = after_jump s distance;
    does = record { silent = h.silent; after = refl };
    straight = straight;
    goes_on = jumped distance h.after;
  }
  follows (instructions.Branch width test a right distance) unnamed straight h =
      let no = or_parts (a == counter) (is_operand counter right) unnamed in
      let same = ap (λ c. test_result width test c (operand (later counter left s) right))
      (held_other counter left s a (differ a counter no.0))
      ∙ ap (λ c. test_result width test (held s a) c) (operand_other counter left s right no.1) in
      branched width test a right distance h.taken (sym same ∙ h.gives) h.silent straight h.after
  follows (instructions.Call number) unnamed straight h =
      let first = held_other counter left s 1 (omega arith) in
      let second = held_other counter left s 2 (omega arith) in
      let answered = rw (first, second) at h.answered in
      let same = called_later s.registers counter (Number left) (Number h.answer) least in
      record {
        next = state_after_call s h.answer;
        does = record { answer = h.answer; answered = answered; after = refl };
        straight = ahead heads s.slot (s.slot + 1) (omega arith);
        goes_on = inl (
          h.after ∙ ap (λ (registers : List Content). record {
            slot = (s.slot + 1) + 1;
            registers = registers;
            stack = s.stack;
          }) same,
          omega (arith, length-drop 6 s.registers),
        );
      }
  follows instructions.Exit unnamed straight h = elim h [ ]
  follows (instructions.Load size target base offset) unnamed straight
      (p, at, content, loads, writable, after) =
      let no = or_parts (target == counter) (base == counter) unnamed in
      record {
        next = with_register s target content;
        does = (
          p,
          sym (held_other counter left s base (differ base counter no.1)) ∙ at,
          content,
          loads_same counter left s size _ input label content loads,
          writable,
          refl,
        );
        straight = ahead heads s.slot (s.slot + 1) (omega arith);
        goes_on = inl (
          after ∙ filled_later counter left s target content
              (differ target counter no.0),
          omega (arith, length-set s.registers target content),
        );
      }
  follows (instructions.Store size base offset source) unnamed straight
      (p, at, stack, stores, after) =
      let no = or_parts (base == counter) (is_operand counter source) unnamed in
      let stored = rw (operand_other counter left s source no.1) at stores in
      record {
        next = record s { slot = s.slot + 1; stack = stack };
        does = (
          p,
          sym (held_other counter left s base (differ base counter no.0)) ∙ at,
          stack,
          stores_same counter left s size _ (operand s source) label stack stored,
          refl,
        );
        straight = ahead heads s.slot (s.slot + 1) (omega arith);
        goes_on = inl (after, whole);
      }
  follows (instructions.LoadNumber target number) unnamed straight (writable, silent, after) =
      record {
        next = record (with_register s target (Number number)) { slot = s.slot + 2 };
        does = (writable, silent, refl);
        straight = ahead heads s.slot (s.slot + 2) (omega arith);
        goes_on = inl (
          after ∙ two_later target (Number number) (differ target counter unnamed),
          omega (arith, length-set s.registers target (Number number)),
        );
      }
  follows (instructions.LoadMap target map offset) unnamed straight (m, is, writable, silent, after)
      =
      let content = Address (pointers.Map m (widened_immediate offset)) in
      record {
        next = record (with_register s target content) { slot = s.slot + 2 };
        does = (m, is, writable, silent, refl);
        straight = ahead heads s.slot (s.slot + 2) (omega arith);
        goes_on = inl (
          after ∙ two_later target content (differ target counter unnamed),
          omega (arith, length-set s.registers target content),
        );
      }
