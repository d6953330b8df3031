use Rattle.std.proofs.Common.{◌≡◌}
use Rattle.elf.specs.Lists.{relocations_below}
use Rattle.elf.proofs.file.ObjectFile.relocations.Given as goal

abbrev pub invariant-loop-i : goal.invariant-loop-i
invariant-loop-i l = l.out.items ≡ relocations_below l.self l.section l.i
