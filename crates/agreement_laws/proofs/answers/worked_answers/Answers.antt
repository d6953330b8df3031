use Rattle.agreement_laws.proofs.WorkedAnswers.{worked}
use Rattle.agreement_laws.proofs.answers.worked_answers.Goals as goal

pub returns : goal.returns
returns c = worked
