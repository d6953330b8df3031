use Rattle.std.proofs.Common.{◌≡◌, length}
use Rattle.asm.specs.LineViews.{views, items}
use Rattle.asm.specs.Text.{Readings}
use Rattle.asm.proofs.reading.read_lines.Given as goal

-- the items so far are what the lines so far spell
abbrev pub invariant-loop-line : goal.invariant-loop-line
invariant-loop-line l = (length l.lines.items ≡ length l.names.items)
    × Readings (views l.yielded) (items l.lines.items l.names.items)
