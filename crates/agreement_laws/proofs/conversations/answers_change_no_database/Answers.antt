use Rattle.agreement_laws.proofs.ConversationsWorkedAnswers.{answers_change_no_database}
use Rattle.agreement_laws.proofs.conversations.answers_change_no_database.Goals as goal

pub returns : goal.returns
returns c = answers_change_no_database
