use Rattle.std.proofs.Common.{subst}
use Rattle.hooks.specs.Questions.{ExternalAnswer, IsPrice}
use Rattle.hooks.proofs.answer.PriceAnswer.word.Goals as goal

pub returns-clause-answers : goal.returns-clause-answers
returns-clause-answers c = subst (λ (a : ExternalAnswer). ∥ IsPrice a ∥₁) c.self.view_is
    c.self.invariant
