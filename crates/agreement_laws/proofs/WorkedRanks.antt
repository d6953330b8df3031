-- Worked examples of ranks.
use Rattle.std.proofs.Common.{refl}
use Rattle.agreement_laws.specs.WorkedRanks.{WorkedRanks}

pub worked : WorkedRanks
worked = record {
  number = refl;
  lesser_number = refl;
  signed = refl;
  checksum = refl;
  lesser_checksum = refl;
  max_age = refl;
  below_max_age = refl;
  younger = refl;
  older = refl;
  newer_by_age = refl;
  first_same = refl;
  second_same = refl;
  not_same = refl;
}
