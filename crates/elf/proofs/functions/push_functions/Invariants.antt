use Rattle.std.proofs.Common.{◌≡◌, ◌++◌}
use Rattle.elf.specs.Lists.{functions_among}
use Rattle.elf.proofs.functions.push_functions.Given as goal

abbrev pub invariant-loop-k : goal.invariant-loop-k
invariant-loop-k l = l.out.items ≡ l.fn.out.items ++ functions_among l.table l.index l.section l.k
