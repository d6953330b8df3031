use Rattle.std.proofs.Common.{subst}
use Rattle.hooks.specs.Questions.{ExternalAnswer, IsTag}
use Rattle.hooks.proofs.answer.TagAnswer.word.Goals as goal

pub returns-clause-answers : goal.returns-clause-answers
returns-clause-answers c = subst (λ (a : ExternalAnswer). ∥ IsTag a ∥₁) c.self.view_is
    c.self.invariant
