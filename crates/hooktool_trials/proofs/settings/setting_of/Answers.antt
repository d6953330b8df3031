use Rattle.std.proofs.Common.{arith}
use Rattle.hooktool_trials.proofs.SettingWords.{no_setting, setting_parts, setting_spelled}
use Rattle.hooktool_trials.proofs.settings.setting_of.Goals as goal

pub returns-in_default : goal.returns-in_default
returns-in_default c = λ s is. no_setting c.args.places c.args.most c.requires.1 c.args.word.now
    c.split_once.result c.split_once.ensures.cases c.in_default.is s is

pub returns-in_default-read_within : goal.returns-in_default-read_within
returns-in_default-read_within c = λ s is.
    let parts = setting_parts c.args.places c.args.most c.requires.1 c.args.word.now
    c.split_once.result (c.in-Some.index, c.in-Some.number) c.split_once.ensures.cases
    c.in-Some.is s is in
    c.in_default-read_within.ensures s.index (omega arith) (omega (arith, is.1)) parts.0

pub returns-in-None : goal.returns-in-None
returns-in-None c = λ s is.
    let parts = setting_parts c.args.places c.args.most c.requires.1 c.args.word.now
    c.split_once.result (c.in-Some.index, c.in-Some.number) c.split_once.ensures.cases
    c.in-Some.is s is in
    c.in-None.ensures s.number (omega arith) is.2 parts.1

pub returns-in-Some-read_within-2 : goal.returns-in-Some-read_within-2
returns-in-Some-read_within-2 c = (
  setting_spelled c.args.word.now c.split_once.result (c.in-Some.index, c.in-Some.number)
      c.split_once.ensures.cases c.in-Some.is
      c.in-Some-read_within.index c.in-Some-read_within-2.number c.in-Some-read_within.ensures.0
      c.in-Some-read_within-2.ensures.0,
  omega (arith, c.in-Some-read_within.ensures.2),
  c.in-Some-read_within-2.ensures.2,
)
