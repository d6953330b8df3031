use Rattle.std.proofs.Common.{refl}
use Rattle.received.proofs.laws.worked_cases.Goals as goal

pub returns : goal.returns
returns c = record {
  none_synchronizing = λ moment lsa sender. refl;
  one_synchronizing = λ moment
      lsa sender. refl;
}
