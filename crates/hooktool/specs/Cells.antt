-- What is told of a program that uses cells where any worker may ask.
use Rattle.std.specs.Prelude.{ℕ, ◌&&◌, ◌∷◌, ◌++◌, List, [], Bool, true, false, pos, codes}
use Rattle.std.specs.Prelude.{if◌then◌else◌}
use Rattle.std.specs.List.{list_any}
use Rattle.std.specs.Ordering.{int_eq}
use Rattle.isa.specs.declared.code.Slot.{Slot}
use Rattle.isa.specs.declared.code.Slot.TheVariants.{Start}
use Rattle.isa.specs.declared.hook.Hook.{Hook}
use Rattle.isa.specs.declared.hook.Hook.TheVariants as hooks
use Rattle.isa.specs.declared.instruction.Instruction.TheVariants.{LoadMap}
use Rattle.verifier.specs.Programs.{Program}

-- the address of the cells, which are map 1
abbrev pub loads_cells : Slot → Bool
loads_cells (Start (LoadMap target map offset)) = int_eq map (pos 1)
loads_cells other = false

-- At count it is the worker of the interface on which the packet came.
abbrev pub may_any_ask : Hook → Bool
may_any_ask hooks.Count = false
may_any_ask other = true

abbrev pub has_cells_of_many : Program → Bool
has_cells_of_many program = may_any_ask program.hook && list_any loads_cells program.code

abbrev pub note : List ℕ
note = codes "  note: it uses cells: at tag, price and veto any worker may ask, each has cells of "
    ++ (codes "its own, and they stay over programs"
    ++ (10 ∷ codes "  keep in counters what all are "
    ++ (codes "to see (docs/use/OPERATING.md, What programs keep)" ++ 10 ∷ [])))

abbrev pub cells_note : Program → List ℕ
cells_note program = (if has_cells_of_many program then note else [])
