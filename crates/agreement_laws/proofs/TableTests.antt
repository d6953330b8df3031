-- Further rows of the table of received LSAs.
use Rattle.std.proofs.Common.{refl}
use Rattle.agreement_laws.specs.TableTests.{EachTestOfTheTableCounts}

pub tests_count : EachTestOfTheTableCounts
tests_count = record {
  aged_over_a_copy = λ b from. refl;
  young_and_new = λ b from s. refl;
  over_an_originated_copy = λ b from s. refl;
  again_at_once = λ b from s is. rw (is.is_asked, is.is_listed) refl;
  young_at_the_last_number = λ b from s listed is. rw is.is_asked refl;
  aged_at_another_number = λ b from s listed is. rw is.is_asked refl;
}
