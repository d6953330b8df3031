use Rattle.agreement_laws.proofs.Described.{described_is_held}
use Rattle.agreement_laws.proofs.answers.what_was_described_is_held.Goals as goal

pub returns : goal.returns
returns c =
    described_is_held c.what_was_described_was_accepted.ensures c.what_was_accepted_is_held.ensures
