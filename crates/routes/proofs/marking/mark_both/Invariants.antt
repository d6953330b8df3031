use Rattle.std.proofs.Common.{◌≡◌, ◌<◌, ◌≤◌, ℕ, false, get_or}
use Rattle.routes.specs.Loops.{IsBoth}
use Rattle.routes.proofs.marking.mark_both.Given as goal

abbrev pub invariant-loop-at : goal.invariant-loop-at
invariant-loop-at l =
    ((k : ℕ) → k < l.at → IsBoth l.one l.other l.initial.marks l.marks k)
    × ((k : ℕ) → l.at ≤ k → get_or l.marks k false ≡ get_or l.initial.marks k false)
