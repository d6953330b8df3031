use Rattle.std.proofs.Common.{ℕ, ◌<◌, ◌≤◌}
use Rattle.routes.specs.Parts.{StandsAt}
use Rattle.routes.proofs.answered.is_answered_from.Given as goal

abbrev pub invariant-loop-at : goal.invariant-loop-at
invariant-loop-at l = (k : ℕ) → l.from ≤ k → k < l.at → StandsAt l.answers k l.route → ⊥
