use Rattle.agreement_laws.proofs.TableTests.{tests_count}
use Rattle.agreement_laws.proofs.conversations.each_test_of_the_table_counts.Goals as goal

pub returns : goal.returns
returns c = tests_count
