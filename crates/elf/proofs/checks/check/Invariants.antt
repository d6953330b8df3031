use Rattle.std.proofs.Common.{ℕ, ◌<◌}
use Rattle.elf.specs.Files.{IsSection, section_at}
use Rattle.elf.proofs.checks.check.Given as goal

abbrev pub invariant-loop-section : goal.invariant-loop-section
invariant-loop-section l = (k : ℕ) → k < l.section → IsSection l.bytes (section_at l.bytes k)
