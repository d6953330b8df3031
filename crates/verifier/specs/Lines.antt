-- Ranks, and their bounds over the start of a segment.
use Rattle.std.specs.Prelude.{◌≡◌, ℕ, ◌+◌, ◌*◌, ◌≤◌, [], ◌∷◌, Option, Some, None}
use Rattle.object.specs.Numbers.{Term}
use Rattle.object.specs.declared.rank.Rank.{Rank}
use Rattle.machine.specs.declared.state.State.{State as Machine}
use Rattle.kinds.specs.Meaning.{number_in}
use Rattle.verifier.specs.declared.line.LinearBound.{LinearBound}
use Rattle.verifier.specs.Dots.{dot}

-- a term's coefficient times the number in its register
abbrev pub term_value : Option Term → Machine → ℕ
term_value None machine = 0
term_value (Some term) machine = term.coefficient * number_in machine term.register

-- the rank's value in a machine
abbrev pub rank_value : Rank → Machine → ℕ
rank_value rank machine =
    rank.constant + term_value rank.first machine + term_value rank.second machine

-- the value is at most what the line gives for the numbers at the start of the segment
pub record IsBound (line : LinearBound) (start : Machine) (value : ℕ) : Type 0 where
  pub bounded : value + line.down ≤ line.constant + dot 10 line.coefficients (number_in start)

-- the rank has no term
pub record IsConstant (rank : Rank) : Type 0 where
  pub first : rank.first ≡ None
  pub second : rank.second ≡ None

-- the bound of a constant
abbrev pub flat : ℕ → LinearBound
flat constant = record {
  constant = constant;
  down = 0;
  coefficients = 0 ∷ 0 ∷ 0 ∷ 0 ∷ 0 ∷ 0 ∷ 0 ∷ 0 ∷ 0 ∷ 0 ∷ [];
}
