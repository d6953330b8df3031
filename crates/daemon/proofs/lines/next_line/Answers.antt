use Rattle.std.proofs.Common.{Some, subst}
use Rattle.daemon.proofs.Reading.{begun_lost, begun_on, given_last, given_whole}
use Rattle.daemon.proofs.lines.next_line.Goals as goal

pub returns-then-byte-eq10 : goal.returns-then-byte-eq10
returns-then-byte-eq10 g c =
    given_whole g.I.ReadsBytes.gives g.I.ReadsBytes.fails c.args.input.now c.loop.input
    c.next_byte.new.self c.loop.bytes.items
    c.loop.is_lost c.whole.result c.loop.invariant
    (subst (λ b. g.I.ReadsBytes.gives c.loop.input (Some b) c.next_byte.new.self)
    c.if-byte-eq10.true
    (rw c.in-Ok-Some.field-0-is at c.in-Ok-Some.ensures.given))
    c.whole.ensures

pub loop-preserved-then-not-keep : goal.loop-preserved-then-not-keep
loop-preserved-then-not-keep g c =
    begun_lost g.I.ReadsBytes.gives c.args.input.now c.loop.input c.next_byte.new.self
    c.loop.bytes.items c.keep.new.bytes.items
    c.loop.is_lost c.in-Ok-Some.byte c.loop.invariant
    (rw c.in-Ok-Some.field-0-is at c.in-Ok-Some.ensures.given) c.if-byte-eq10.false

pub loop-preserved : goal.loop-preserved
loop-preserved g c =
    begun_on g.I.ReadsBytes.gives c.args.input.now c.loop.input c.next_byte.new.self
    c.loop.bytes.items c.keep.new.bytes.items
    c.loop.is_lost c.in-Ok-Some.byte c.loop.invariant
    (rw c.in-Ok-Some.field-0-is at c.in-Ok-Some.ensures.given) c.if-byte-eq10.false
    (c.keep.ensures c.if-not-keep.false)

pub returns-in-Ok-None : goal.returns-in-Ok-None
returns-in-Ok-None g c =
    given_last g.I.ReadsBytes.gives g.I.ReadsBytes.fails c.args.input.now c.loop.input
    c.next_byte.new.self c.loop.bytes.items
    c.loop.is_lost c.last.result c.loop.invariant
    (rw c.in-Ok-None.field-0-is at c.in-Ok-None.ensures.given) c.last.ensures
