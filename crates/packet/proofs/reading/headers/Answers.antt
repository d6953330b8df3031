use Rattle.lsa.specs.Headers.{header_at}
use Rattle.words.specs.Records.{records}
use Rattle.words.proofs.Records.{records-step}
use Rattle.packet.proofs.reading.headers.Goals as goal

pub loop-i-preserved : goal.loop-i-preserved
loop-i-preserved c =
    let bytes = c.args.bytes.now in
    records-step header_at 20 bytes c.args.at c.args.count c.loop-i.i c.loop-i.headers.items
    c.push.new.self.items c.header_at.result (records header_at 20 bytes c.args.at c.args.count)
    c.loop-i-test.true c.header_at.ensures
    c.in_ok-push.ensures.items c.loop-i.invariant
