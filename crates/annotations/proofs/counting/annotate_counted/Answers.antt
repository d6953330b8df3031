use Rattle.std.proofs.Common.{inr, rules}
use Rattle.annotations.proofs.counting.annotate_counted.Goals as goal

pub loop-preserved : goal.loop-preserved
loop-preserved c = inr (c.stays_inside-is_inside.ensures (search rules))
