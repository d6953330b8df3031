use Rattle.std.proofs.lemmas.Bool.{false≢true}
use Rattle.candidates.proofs.lookups.is_first.Goals as goal

pub returns-then-are_before-clause-before : goal.returns-then-are_before-clause-before
returns-then-are_before-clause-before c = λ t. c.are_before.ensures c.if-are_before.true

pub returns-then-are_before-clause-beyond : goal.returns-then-are_before-clause-beyond
returns-then-are_before-clause-beyond c = c.are_not_before.ensures

pub returns-clause-before : goal.returns-clause-before
returns-clause-before c = λ t. absurd (false≢true t)

pub returns-clause-beyond : goal.returns-clause-beyond
returns-clause-beyond c = λ t. absurd (false≢true t)
