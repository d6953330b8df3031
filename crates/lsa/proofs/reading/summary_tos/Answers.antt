use Rattle.words.specs.Records.{records}
use Rattle.words.proofs.Records.{records-step}
use Rattle.lsa.specs.Reading.{summary_tos_at}
use Rattle.lsa.proofs.reading.summary_tos.Goals as goal

pub loop-i-preserved : goal.loop-i-preserved
loop-i-preserved c =
    let bytes = c.args.bytes.now in
    records-step summary_tos_at 4 bytes c.args.at c.args.count c.loop-i.i c.loop-i.tos.items
    c.push.new.self.items
    (record { tos = c.byte_at.result; metric = c.u24_at.result })
    (records summary_tos_at 4 bytes c.args.at c.args.count)
    c.loop-i-test.true (λ i. record {
      tos = c.byte_at.ensures i;
      metric = c.u24_at.ensures.number i;
    }) c.in_ok-push.ensures.items c.loop-i.invariant
