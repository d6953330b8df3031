use Rattle.hooks.proofs.answer.PriceAnswer.new.Goals as goal

pub invariant_of-result : goal.invariant_of-result
invariant_of-result c = ∣ c.requires ∣₁
