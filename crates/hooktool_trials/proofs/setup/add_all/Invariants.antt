use Rattle.std.proofs.Common.{take}
use Rattle.maps.specs.Words.{IsSeatOf}
use Rattle.hooktool_trials.specs.Chains.{Chain}
use Rattle.hooktool_trials.specs.Settings.{AddsOne}
use Rattle.hooktool_trials.proofs.setup.add_all.Given as goal

-- the settings before the index are made
abbrev pub invariant-loop-setting : goal.invariant-loop-setting
invariant-loop-setting l = IsSeatOf l.shared l.seat
    × Chain AddsOne (take l.setting-index l.settings) l.fn.seat l.seat
