use Rattle.agreement_laws.proofs.Taking.{accepted_is_held}
use Rattle.agreement_laws.proofs.answers.what_was_accepted_is_held.Goals as goal

pub returns : goal.returns
returns c = accepted_is_held (record {
  ranks = c.ranks_follow_the_comparison.ensures;
  climb = c.copies_climb.ensures;
  met = c.requests_are_met.ensures;
  requested = c.what_is_accepted_is_requested.ensures;
  stay = c.requests_stay.ensures;
})
