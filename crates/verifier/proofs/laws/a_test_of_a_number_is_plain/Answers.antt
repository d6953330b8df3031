use Rattle.verifier.proofs.Examples.{tested_is_plain}
use Rattle.verifier.proofs.laws.a_test_of_a_number_is_plain.Goals as goal

pub returns : goal.returns
returns c = tested_is_plain
