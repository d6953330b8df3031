use Rattle.std.proofs.Common.{arith}
use Rattle.hooktool_trials.specs.Settings.{StoresOne}
use Rattle.hooktool_trials.proofs.Chained.{chain_all, chain_more}
use Rattle.hooktool_trials.proofs.setup.store_all.Goals as goal

pub loop-setting-preserved : goal.loop-setting-preserved
loop-setting-preserved c = (
  c.store_one.ensures.table,
  chain_more StoresOne c.args.settings.now c.loop-setting.setting-index _ c.args.seat.now
      c.loop-setting.seat c.store_one.new.seat
      (omega (arith, c.loop-setting-test.true)) c.loop-setting.invariant.1
      c.store_one.ensures.stored,
)

pub returns-clause-stored : goal.returns-clause-stored
returns-clause-stored c =
    chain_all StoresOne c.args.settings.now c.loop-setting.setting-index c.args.seat.now
    c.loop-setting.seat
    (omega (arith, c.loop-setting-test.false, c.loop-setting.auto)) c.loop-setting.invariant.1
