-- The start of runs.
use Rattle.std.proofs.Common.{◌≡◌, ℕ, List, [], ◌∷◌, Some, refl}
use Rattle.std.proofs.Common.{arith}
use Rattle.std.specs.Prelude.{slice_get, pos, negsuc}
use Rattle.std.proofs.lemmas.List.{get_or-replicate}
use Rattle.isa.specs.declared.hook.Hook.{Hook}
use Rattle.isa.specs.declared.instruction.Instruction.TheVariants.{Load, LoadMap, Store}
use Rattle.isa.specs.declared.instruction.LoadSize.TheVariants.{Unsigned64}
use Rattle.isa.specs.declared.instruction.Source.TheVariants.{Register}
use Rattle.isa.specs.declared.instruction.StoreSize.TheVariants as stored
use Rattle.isa.specs.declared.map.Map.{Map}
use Rattle.isa.specs.declared.map.Map.TheVariants as maps
use Rattle.machine.specs.declared.state.Content.TheVariants as contents
use Rattle.machine.specs.declared.state.Pointer.TheVariants as pointers
use Rattle.machine.specs.declared.state.StackByte.{StackByte}
use Rattle.machine.specs.declared.state.StackByte.TheVariants as stack_bytes
use Rattle.machine.specs.declared.state.State.{State}
use Rattle.machine.specs.Given.{blank}
use Rattle.machine.specs.Label.{Silent}
use Rattle.machine.specs.State.{with_register, setting_of, start}
use Rattle.machine.specs.Runs.{Run}
use Rattle.object.specs.declared.kind.StatedKind.TheVariants.{Context, Unstated}
use Rattle.object.specs.Sets.{no_bytes, with_range}
use Rattle.kinds.specs.Stated.{GivesStated, any_number}
use Rattle.machine.specs.declared.regions.Region.{Region}
use Rattle.machine.specs.declared.regions.Region.TheVariants as regions
use Rattle.machine.specs.Regions.{AreRecordedRegions}
use Rattle.verifier.specs.Examples.{then_exit, says, seven}
use Rattle.program_laws.specs.Runs.{LaterSlotsAreAsStated, LoadsAreOfTheirMap, StartsAsStated}
use Rattle.program_laws.specs.Runs.{loads_context, loads_of_map, says_first, stores_on_stack}

-- the run without steps
no_steps : (hook : Hook) → Run (setting_of loads_context hook blank) 0 [] start
no_steps hook = record { steps = refl; leads = refl }

pub loads_of_context : (hook : Hook) (kept : List Region) → AreRecordedRegions loads_context hook
    kept
    → slice_get kept 0 ≡ Some regions.Context
loads_of_context hook kept are = are blank 0 [] start (no_steps hook) (Load Unsigned64 0 1 (pos 0))
    1 (pointers.Context 0) refl refl refl

pub stores_on_its_stack : (hook : Hook) (kept : List Region)
    → AreRecordedRegions stores_on_stack hook kept → slice_get kept 0 ≡ Some regions.Stack
stores_on_its_stack hook kept are =
    are blank 0 [] start (record {
      steps = refl;
      leads = refl;
    }) (Store stored.Bits64 10 (negsuc 7) (Register 1)) 10
    (pointers.Stack 512) refl refl refl

-- the state after the pointer to a map is loaded
abbrev with_map : Map → State
with_map map = record (with_register start 1 (contents.Address (pointers.Map map 0))) { slot = 2 }

one_is_writable : ◌≡◌ {A = ℕ} 1 10 → ⊥
one_is_writable is = omega (arith, is)

counters_step : (hook : Hook) → Run (setting_of (loads_of_map 0) hook blank) 1 (Silent ∷ [])
    (with_map maps.Counters)
counters_step hook = record {
  steps = refl;
  leads = (
    with_map maps.Counters,
    record {
      instruction = LoadMap 1 (pos 0) (pos 0);
      at = refl;
      does = (maps.Counters, refl, one_is_writable, refl, refl);
    },
    refl,
  );
}

cells_step : (hook : Hook) → Run (setting_of (loads_of_map 1) hook blank) 1 (Silent ∷ [])
    (with_map maps.Cells)
cells_step hook = record {
  steps = refl;
  leads = (
    with_map maps.Cells,
    record {
      instruction = LoadMap 1 (pos 1) (pos 0);
      at = refl;
      does = (maps.Cells, refl, one_is_writable, refl, refl);
    },
    refl,
  );
}

pub loads_of_its_map : LoadsAreOfTheirMap
loads_of_its_map = record {
  counters = λ hook kept are. are blank 1 (Silent ∷ []) (with_map maps.Counters)
      (counters_step hook) (Load Unsigned64 0 1 (pos 0)) 1 (pointers.Map maps.Counters 0) refl refl
      refl;
  cells = λ hook kept are. are blank 1 (Silent ∷ []) (with_map maps.Cells) (cells_step hook)
      (Load Unsigned64 0 1 (pos 0)) 1 (pointers.Map maps.Cells 0) refl refl refl;
}

-- the state after `r0 = 7`
abbrev behind_seven : State
behind_seven = with_register start 0 (contents.Number 7)

zero_is_writable : ◌≡◌ {A = ℕ} 0 10 → ⊥
zero_is_writable is = omega (arith, is)

seven_step : (hook : Hook) → Run (setting_of (then_exit seven) hook blank) 1 (Silent ∷ [])
    behind_seven
seven_step hook = record {
  steps = refl;
  leads = (
    behind_seven,
    record {
      instruction = seven;
      at = refl;
      does = record {
        filling = contents.Number 7;
        gives = refl;
        writable = zero_is_writable;
        silent = refl;
        after = refl;
      };
    },
    refl,
  );
}

number_is_no_pointer : contents.Number 7 ≡ contents.Address (pointers.Context 0) → ⊥
number_is_no_pointer is = cc

pub later_as_stated : {D : Type 0} (contains : D → ℕ → Type 0) (gives : GivesStated D) (hook : Hook)
    → LaterSlotsAreAsStated contains gives hook
later_as_stated contains gives hook meet =
    number_is_no_pointer ((meet blank 1 (Silent ∷ []) behind_seven (says 1 (Context 0) 0)
    (seven_step hook) refl).registers 0 (omega arith))

offset_is : (a b : ℕ) → contents.Address (pointers.Context a)
    ≡ contents.Address (pointers.Context b) → a ≡ b
offset_is a b is = cc

context_apart : contents.Address (pointers.Context 0) ≡ contents.Address (pointers.Context 8) → ⊥
context_apart is = let same = offset_is 0 8 is in omega (arith, same)

nothing_is_number : (n : ℕ) → contents.Nothing ≡ contents.Number n → ⊥
nothing_is_number n is = cc

nothing_is_byte : (n : ℕ) (byte : StackByte) → byte ≡ stack_bytes.Nothing → byte
    ≡ stack_bytes.Byte n → ⊥
nothing_is_byte n byte none is = cc

pub starts_as_stated : {D : Type 0} (contains : D → ℕ → Type 0) (gives : GivesStated D)
    (hook : Hook) → StartsAsStated contains gives hook
starts_as_stated contains gives hook = record {
  offset = λ meet. context_apart ((meet blank 0 [] start (says_first Unstated (Context 8))
      (no_steps hook) refl).registers 1 (omega arith));
  filled = λ meet. let held = (meet blank 0 [] start (says_first any_number Unstated)
      (no_steps hook)
      refl).registers 0 (omega arith) in nothing_is_number held.0 held.1;
  byte = λ meet. let byte = (meet blank 0 [] start
      (record (says_first Unstated Unstated) { stack = with_range 0 1 no_bytes }) (no_steps hook)
      refl).stack 0 refl in
      nothing_is_byte byte.0 _ (get_or-replicate 512 0 stack_bytes.Nothing stack_bytes.Nothing
      (omega arith)) byte.1;
}
