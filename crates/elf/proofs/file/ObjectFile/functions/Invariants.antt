use Rattle.std.proofs.Common.{◌≡◌}
use Rattle.elf.specs.Lists.{functions_below}
use Rattle.elf.proofs.file.ObjectFile.functions.Given as goal

abbrev pub invariant-loop-i : goal.invariant-loop-i
invariant-loop-i l = l.out.items ≡ functions_below l.self l.section l.i
