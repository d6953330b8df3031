use Rattle.agreement_laws.proofs.AnswerHistories.{answered}
use Rattle.agreement_laws.proofs.answers.descriptions_are_answered.Goals as goal

pub returns : goal.returns
returns c = answered
