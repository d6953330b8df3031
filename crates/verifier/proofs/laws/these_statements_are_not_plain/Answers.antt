use Rattle.verifier.proofs.Examples.{is_stray, says_seven, says_a_byte, says_a_term}
use Rattle.verifier.proofs.laws.these_statements_are_not_plain.Goals as goal

pub returns-clause-stray : goal.returns-clause-stray
returns-clause-stray c = is_stray

pub returns-clause-numbers : goal.returns-clause-numbers
returns-clause-numbers c = says_seven

pub returns-clause-bytes : goal.returns-clause-bytes
returns-clause-bytes c = says_a_byte

pub returns-clause-term : goal.returns-clause-term
returns-clause-term c = says_a_term
