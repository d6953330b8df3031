-- Which functions of a file a linker would change.
use Rattle.std.specs.Prelude.{ℕ, ◌-◌, ◌&&◌, List, Bool, nat_le, nat_lt}
use Rattle.std.specs.List.{list_any}
use Rattle.elf.specs.declared.lists.LinkedRelocation.{LinkedRelocation}
use Rattle.elf.specs.declared.lists.LinkedSymbol.{LinkedSymbol}

-- the function has the place of its section
abbrev pub has_place : LinkedSymbol → (offset : ℕ) → Bool
has_place function offset = nat_le function.symbol.value offset
    && nat_lt (offset - function.symbol.value) function.symbol.size

-- one of the relocations is of a place of the function's
abbrev pub is_changed : List LinkedRelocation → LinkedSymbol → Bool
is_changed relocations function =
    list_any (λ it. has_place function it.relocation.offset) relocations
