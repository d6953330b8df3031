use Rattle.words.proofs.Each.{each_next}
use Rattle.lsa.specs.Ranges.{SummaryTosIsTyped}
use Rattle.lsa.proofs.ranges.prove_summary_metrics.Goals as goal

pub loop-metric-preserved : goal.loop-metric-preserved
loop-metric-preserved c = each_next SummaryTosIsTyped c.args.metrics.now c.loop-metric.metric-index
    _ c.loop-metric-test.true c.prove_summary_metric.ensures c.loop-metric.invariant
