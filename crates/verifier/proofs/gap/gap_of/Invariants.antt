use Rattle.std.proofs.Common.{◌≡◌, ◌+◌, ◌≤◌}
use Rattle.machine.specs.declared.state.State.{State as Machine}
use Rattle.kinds.specs.Meaning.{RegistersHold, number_in}
use Rattle.verifier.specs.Dots.{dot}
use Rattle.verifier.proofs.gap.gap_of.Given as goal

-- the gap of the registers so far
abbrev pub invariant-loop-index : goal.invariant-loop-index
invariant-loop-index g l =
    ((start : Machine) → RegistersHold g.D.Domain.contains l.kinds start
    → dot l.index l.lefts (number_in start) + l.saved
    ≤ dot l.index l.rights (number_in start) + l.needed)
    × (l.lefts ≡ l.rights → (l.saved ≡ 0) × (l.needed ≡ 0))
