-- Numbers of a capture, in either order of bytes.
use Rattle.std.specs.Prelude.{ℕ, ◌+◌, ◌*◌, List, slice_index}
use Rattle.hooktool_trials.specs.declared.captures.number.Order.{Order}
use Rattle.hooktool_trials.specs.declared.captures.number.Order.TheVariants.{Little, Big}

-- two bytes
unfoldable pub half : Order → List ℕ → ℕ → ℕ
half Little bytes at = slice_index bytes at + 256 * slice_index bytes (at + 1)
half Big bytes at = slice_index bytes (at + 1) + 256 * slice_index bytes at

-- four bytes
unfoldable pub word : Order → List ℕ → ℕ → ℕ
word Little bytes at = half Little bytes at + 65536 * half Little bytes (at + 2)
word Big bytes at = half Big bytes (at + 2) + 65536 * half Big bytes at
