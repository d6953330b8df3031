use Rattle.std.proofs.Common.{subst}
use Rattle.hooks.specs.Questions.{RouteAnswer, IsVeto}
use Rattle.hooks.proofs.answer.VetoAnswer.word.Goals as goal

pub returns-clause-answers : goal.returns-clause-answers
returns-clause-answers c = subst (λ (a : RouteAnswer). ∥ IsVeto a ∥₁) c.self.view_is
    c.self.invariant
