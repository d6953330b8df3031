use Rattle.std.proofs.Common.{sym}
use Rattle.annotations.proofs.Pushed.{one_more_slot}
use Rattle.annotations.proofs.counted_code.push_code.Goals as goal

pub loop-slot-preserved : goal.loop-slot-preserved
loop-slot-preserved c =
    one_more_slot c.len-slots.result c.args.heads.now c.slots-place-items.result.now
    c.loop-slot.slot c.place-item.result c.place-item.result
    c.args.builder.now c.loop-slot.builder c.push_slot.new.builder c.loop-slot-test.true
    (sym c.place-item.is) c.loop-slot.invariant
    c.in_ok-push_slot.ensures
