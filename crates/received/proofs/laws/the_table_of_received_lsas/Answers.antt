use Rattle.std.proofs.Common.{refl}
use Rattle.received.proofs.laws.the_table_of_received_lsas.Goals as goal

pub returns : goal.returns
returns c = record {
  too_soon = λ b from s. refl;
  newer = λ b from s. refl;
  bad_request = λ b from s listed is. rw is.is_asked refl;
  implied = λ b from s is. rw (is.is_asked, is.is_listed) refl;
  duplicate = λ b from s is. rw (is.is_asked, is.is_listed) refl;
  wraps = λ b from s listed is. rw is.is_asked refl;
  just_sent = λ b from s listed is. rw is.is_asked refl;
  older = λ b from s listed is. rw is.is_asked refl;
}
