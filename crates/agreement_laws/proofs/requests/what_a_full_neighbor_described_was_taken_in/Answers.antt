use Rattle.agreement_laws.proofs.TakenIn.{full_took_in}
use Rattle.agreement_laws.proofs.requests.what_a_full_neighbor_described_was_taken_in.Goals as goal

pub returns : goal.returns
returns c = full_took_in c.ranks_follow_the_comparison.ensures
