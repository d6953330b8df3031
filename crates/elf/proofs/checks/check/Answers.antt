use Rattle.std.proofs.Common.{below_more}
use Rattle.elf.proofs.checks.check.Goals as goal

pub loop-section-preserved : goal.loop-section-preserved
loop-section-preserved c = below_more _ _ c.loop-section.invariant c.in_ok-check_section.ensures
