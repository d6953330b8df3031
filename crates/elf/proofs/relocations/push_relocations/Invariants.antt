use Rattle.std.proofs.Common.{◌≡◌, ◌++◌}
use Rattle.elf.specs.Lists.{relocations_among}
use Rattle.elf.proofs.relocations.push_relocations.Given as goal

abbrev pub invariant-loop-k : goal.invariant-loop-k
invariant-loop-k l = l.out.items ≡ l.fn.out.items ++ relocations_among l.table l.symbols l.k
