use Rattle.agreement_laws.proofs.Agreeing.{neighbors_agree}
use Rattle.agreement_laws.proofs.neighbors_agree_on_what_was_renewed.Goals as goal

pub returns : goal.returns
returns c = neighbors_agree
