use Rattle.program_laws.proofs.AnswerLaws.{of_what_stands}
use Rattle.program_laws.proofs.answers_are_of_what_stands.Goals as goal

pub returns : goal.returns
returns c = of_what_stands
