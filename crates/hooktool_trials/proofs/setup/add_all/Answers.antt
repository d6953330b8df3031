use Rattle.std.proofs.Common.{arith}
use Rattle.hooktool_trials.specs.Settings.{AddsOne}
use Rattle.hooktool_trials.proofs.Chained.{chain_all, chain_more}
use Rattle.hooktool_trials.proofs.setup.add_all.Goals as goal

pub loop-setting-preserved : goal.loop-setting-preserved
loop-setting-preserved c = (
  c.add_one.ensures.table,
  chain_more AddsOne c.args.settings.now c.loop-setting.setting-index _ c.args.seat.now
      c.loop-setting.seat c.add_one.new.seat
      (omega (arith, c.loop-setting-test.true)) c.loop-setting.invariant.1 c.add_one.ensures.added,
)

pub returns-clause-added : goal.returns-clause-added
returns-clause-added c =
    chain_all AddsOne c.args.settings.now c.loop-setting.setting-index c.args.seat.now
    c.loop-setting.seat
    (omega (arith, c.loop-setting-test.false, c.loop-setting.auto)) c.loop-setting.invariant.1
