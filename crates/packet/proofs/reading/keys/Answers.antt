use Rattle.std.proofs.Common.{◌≡◌, ◌+◌, ◌*◌, ◌/◌, ap, length, ◌∙◌, arith}
use Rattle.packet.specs.Reading.{key_at}
use Rattle.words.specs.Records.{records}
use Rattle.words.proofs.Records.{records-step}
use Rattle.packet.proofs.reading.keys.Goals as goal

pub loop-i-preserved : goal.loop-i-preserved
loop-i-preserved c =
    let bytes = c.args.bytes.now in
    records-step key_at 12 bytes 0 (length c.args.bytes.now / 12) c.loop-i.i c.loop-i.keys.items
    c.push.new.self.items c.key_at.result
    (records key_at 12 bytes 0 (length c.args.bytes.now / 12))
    c.loop-i-test.true (let e : 12 * c.loop-i.i ≡ 0 + 12 * c.loop-i.i = omega arith in
    c.key_at.ensures ∙ ap (key_at bytes) e)
    c.in_ok-push.ensures.items c.loop-i.invariant
