use Rattle.candidates.proofs.lookups.first_at_near.Goals as goal

pub returns-then-is_first-clause-before : goal.returns-then-is_first-clause-before
returns-then-is_first-clause-before c = c.is_first.ensures.before c.if-is_first.true

pub returns-then-is_first-clause-beyond : goal.returns-then-is_first-clause-beyond
returns-then-is_first-clause-beyond c = c.is_first.ensures.beyond c.if-is_first.true
