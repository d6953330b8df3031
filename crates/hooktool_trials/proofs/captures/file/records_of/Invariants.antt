use Rattle.std.proofs.Common.{◌≤◌, ◌-◌, length}
use Rattle.hooktool_trials.specs.Captures.{AreRecords}
use Rattle.hooktool_trials.proofs.captures.file.records_of.Given as goal

abbrev pub invariant-loop-at : goal.invariant-loop-at
invariant-loop-at l = (l.at ≤ length l.bytes) × AreRecords l.order l.bytes 24 l.records.items l.at

abbrev pub decreases-loop-at : goal.decreases-loop-at
decreases-loop-at l = length l.bytes - l.at
