use Rattle.std.proofs.Common.{take}
use Rattle.std.specs.List.{AllByRecursion}
use Rattle.lsa.specs.Ranges.{SummaryTosIsTyped}
use Rattle.lsa.proofs.ranges.prove_summary_metrics.Given as goal

abbrev pub invariant-loop-metric : goal.invariant-loop-metric
invariant-loop-metric l = AllByRecursion SummaryTosIsTyped (take l.metric-index l.metrics)
