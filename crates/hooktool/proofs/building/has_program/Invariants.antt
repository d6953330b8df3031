use Rattle.std.proofs.Common.{◌≡◌, ◌<◌, ℕ, false}
use Rattle.hooktool.specs.Builds.{is_program_section}
use Rattle.hooktool.proofs.building.has_program.Given as goal

abbrev pub invariant-loop-index : goal.invariant-loop-index
invariant-loop-index l = (i : ℕ) → i < l.index → is_program_section l.file i ≡ false
