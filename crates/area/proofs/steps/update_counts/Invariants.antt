use Rattle.std.proofs.Common.{◌≡◌, map, take}
use Rattle.area.specs.Steps.{update_count_on}
use Rattle.area.proofs.steps.update_counts.Given as goal

abbrev pub invariant-loop-i : goal.invariant-loop-i
invariant-loop-i l = l.counts.items ≡ map update_count_on (take l.i l.links)
