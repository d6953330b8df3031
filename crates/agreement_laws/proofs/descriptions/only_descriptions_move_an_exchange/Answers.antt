use Rattle.agreement_laws.proofs.Moves.{moves}
use Rattle.agreement_laws.proofs.descriptions.only_descriptions_move_an_exchange.Goals as goal

pub returns : goal.returns
returns c = moves
