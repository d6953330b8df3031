use Rattle.words.proofs.Each.{each_next}
use Rattle.lsa.specs.Text.{IsLinkTos}
use Rattle.lsa.proofs.ranges.prove_metrics.Goals as goal

pub loop-metric-preserved : goal.loop-metric-preserved
loop-metric-preserved c = each_next IsLinkTos c.args.metrics.now c.loop-metric.metric-index _
    c.loop-metric-test.true c.prove_metric.ensures c.loop-metric.invariant
