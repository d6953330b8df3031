use Rattle.std.proofs.Common.{ℕ, ◌<◌}
use Rattle.elf.specs.Files.{IsSymbol, section_at}
use Rattle.elf.proofs.checks.check_symbols.Given as goal

abbrev pub invariant-loop-symbol : goal.invariant-loop-symbol
invariant-loop-symbol l = (k : ℕ) → k < l.symbol → IsSymbol l.bytes (section_at l.bytes l.section) k
