-- The numbers of the shared maps.
use Rattle.std.specs.Prelude.{◌==◌, if◌then◌else◌, ℕ, ℤ, Option, None, Some}
use Rattle.isa.specs.Arithmetic.{widened_immediate}
use Rattle.isa.specs.declared.map.Map.{Map}
use Rattle.isa.specs.declared.map.Map.TheVariants as maps

abbrev pub map_number : Map → ℕ
map_number maps.Counters = 0
map_number maps.Cells = 1

-- The map with this number, which is the instruction's imm.
abbrev pub map_of : ℤ → Option Map
map_of number =
    if widened_immediate number == 0 then Some maps.Counters
    else if widened_immediate number == 1 then Some maps.Cells else None
