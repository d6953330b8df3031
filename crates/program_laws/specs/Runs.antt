-- The definitions of accepted programs, applied to small ones.
use Rattle.std.specs.Prelude.{◌≡◌, ℕ, List, [], ◌∷◌, replicate, Some, pos, negsuc, slice_get}
use Rattle.isa.specs.declared.code.Slot.{Slot}
use Rattle.isa.specs.declared.code.Slot.TheVariants.{SecondHalf, Start}
use Rattle.isa.specs.declared.hook.Hook.{Hook}
use Rattle.isa.specs.declared.instruction.Instruction.TheVariants.{Load, LoadMap, Store}
use Rattle.isa.specs.declared.instruction.LoadSize.TheVariants.{Unsigned64}
use Rattle.isa.specs.declared.instruction.Source.TheVariants.{Register}
use Rattle.isa.specs.declared.instruction.StoreSize.TheVariants as stored
use Rattle.object.specs.declared.kind.StatedKind.{StatedKind}
use Rattle.object.specs.declared.kind.StatedKind.TheVariants.{Context, Unstated}
use Rattle.object.specs.Sets.{no_bytes, with_range}
use Rattle.object.specs.Statements.{StatementParts}
use Rattle.kinds.specs.Stated.{GivesStated, any_number}
use Rattle.machine.specs.declared.regions.Region.{Region}
use Rattle.machine.specs.declared.regions.Region.TheVariants as regions
use Rattle.machine.specs.Regions.{AreRecordedRegions}
use Rattle.verifier.specs.Examples.{constant_rank, then_exit, says, seven}
use Rattle.verifier.specs.Stated.{RunsMeetStatements}

-- `r0 = *u64 r1 0; exit`
abbrev pub loads_context : List Slot
loads_context = then_exit (Load Unsigned64 0 1 (pos 0))

-- its load is from the context
abbrev pub LoadsAreOfTheContext : Type 0
LoadsAreOfTheContext =
    (hook : Hook) (kept : List Region) → AreRecordedRegions loads_context hook kept
    → slice_get kept 0 ≡ Some regions.Context

-- `*u64 r10 -8 = r1; exit`
abbrev pub stores_on_stack : List Slot
stores_on_stack = then_exit (Store stored.Bits64 10 (negsuc 7) (Register 1))

-- its store is to the stack
abbrev pub StoresAreOfTheStack : Type 0
StoresAreOfTheStack =
    (hook : Hook) (kept : List Region) → AreRecordedRegions stores_on_stack hook kept
    → slice_get kept 0 ≡ Some regions.Stack

-- `r1 = map; r0 = *u64 r1 0; exit`, the map by its number
abbrev pub loads_of_map : ℕ → List Slot
loads_of_map number =
    Start (LoadMap 1 (pos number) (pos 0)) ∷ SecondHalf ∷ then_exit (Load Unsigned64 0 1 (pos 0))

-- its load, which comes after a step, is from that map
pub record LoadsAreOfTheirMap : Type 0 where
  pub counters : (hook : Hook) (kept : List Region) → AreRecordedRegions (loads_of_map 0) hook kept
      → slice_get kept 2 ≡ Some regions.Counters
  pub cells : (hook : Hook) (kept : List Region) → AreRecordedRegions (loads_of_map 1) hook kept
      → slice_get kept 2 ≡ Some regions.Cells

-- the statement at the first slot about r0 and r1; nothing is said of r2 to r9 and the stack
abbrev pub says_first : StatedKind → StatedKind → StatementParts
says_first first second = record {
  slot = 0;
  rank = constant_rank 0;
  kinds = first ∷ second ∷ replicate 8 Unstated;
  stack = no_bytes;
}

-- A run begins with r1 at the first byte of the context, and with nothing in r0 and on the stack:
-- so no program with another statement at slot 0 is accepted, whatever the domain.
pub record StartsAsStated {D : Type 0} (contains : D → ℕ → Type 0) (gives : GivesStated D)
    (hook : Hook) : Type 0 where
  pub offset : RunsMeetStatements contains gives loads_context hook
      (says_first Unstated (Context 8) ∷ []) → ⊥
  pub filled : RunsMeetStatements contains gives loads_context hook
      (says_first any_number Unstated ∷ []) → ⊥
  pub byte : RunsMeetStatements contains gives loads_context hook
      (record (says_first Unstated Unstated) { stack = with_range 0 1 no_bytes } ∷ []) → ⊥

-- `r0 = 7; exit` doesn't leave a pointer in r0: so no program with such a statement after it is
-- accepted.
abbrev pub LaterSlotsAreAsStated : {D : Type 0} → (D → ℕ → Type 0) → GivesStated D → Hook → Type 0
LaterSlotsAreAsStated contains gives hook =
    RunsMeetStatements contains gives (then_exit seven) hook (says 1 (Context 0) 0 ∷ []) → ⊥
