use Rattle.std.proofs.Common.{◌+◌, arith}
use Rattle.annotations.proofs.Pushed.{one_more_detour}
use Rattle.annotations.proofs.counted_code.push_detours.Goals as goal

pub loop-head-preserved : goal.loop-head-preserved
loop-head-preserved c = record {
  builder = one_more_detour c.args.answer c.args.counter (c.args.slots + 1) c.args.heads.now
      c.loop-head.head-index c.loop-head.at 0
      c.args.builder.now c.loop-head.builder c.push_detour.new.builder
      c.loop-head-test.true c.loop-head.invariant.at c.loop-head.invariant.builder
      c.in_ok-push_detour.ensures;
  at = omega arith;
}
