use Rattle.agreement_laws.proofs.Numbers.{numbers_move}
use Rattle.agreement_laws.proofs.descriptions.accepted_descriptions_move_numbers.Goals as goal

pub returns : goal.returns
returns c = numbers_move
