-- Sets of stack bytes: 512 truth values, one for each byte of the stack.
use Rattle.std.specs.Prelude.{◌≡◌, ℕ, ◌-◌, Bool, true, false, List, ◌++◌, length, take, drop}
use Rattle.std.specs.Prelude.{replicate, slice_index_or}

abbrev pub stack_length : ℕ
stack_length = 512

abbrev pub IsStackBytes : List Bool → Type 0
IsStackBytes bytes = length bytes ≡ 512

abbrev pub no_bytes : List Bool
no_bytes = replicate 512 false

-- the byte is in the set
abbrev pub has_byte : List Bool → ℕ → Bool
has_byte bytes byte = slice_index_or bytes byte false

-- the set with the bytes from `start` up to but excluding `end` added
abbrev pub with_range : ℕ → ℕ → List Bool → List Bool
with_range start end bytes = take start bytes ++ replicate (end - start) true ++ drop end bytes
