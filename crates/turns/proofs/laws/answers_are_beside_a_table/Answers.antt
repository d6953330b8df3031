use Rattle.turns.proofs.Configured.{beside_a_table}
use Rattle.turns.proofs.laws.answers_are_beside_a_table.Goals as goal

pub returns : goal.returns
returns c = beside_a_table
