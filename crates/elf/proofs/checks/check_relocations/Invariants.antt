use Rattle.std.proofs.Common.{ℕ, ◌<◌}
use Rattle.elf.specs.Files.{IsRelocation, section_at}
use Rattle.elf.proofs.checks.check_relocations.Given as goal

abbrev pub invariant-loop-relocation : goal.invariant-loop-relocation
invariant-loop-relocation l = (k : ℕ) → k < l.relocation
    → IsRelocation l.bytes (section_at l.bytes l.section) k
