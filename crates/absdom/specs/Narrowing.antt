-- How the parts of a pair narrow each other, in terms of what their domains give: the first domain
-- for its tests against the least and the greatest number of the second part, the second domain for
-- its test against the first part's number, if that is a single one.
use Rattle.std.specs.Prelude.{◌≡◌, ℕ, Option, Some}
use Rattle.isa.specs.declared.instruction.Test.{Test}
use Rattle.isa.specs.declared.instruction.Test.TheVariants.{Equal, GreaterOrEqual, LessOrEqual}
use Rattle.isa.specs.declared.instruction.Width.{Width}
use Rattle.isa.specs.declared.instruction.Width.TheVariants.{Bits64}
use Rattle.absdom.specs.declared.pair.Pair.{Pair}

-- what a domain gives for a number, for a test and as the range of a value
abbrev pub GivesConstant : Type 0 → Type 1
GivesConstant D = ℕ → D → Type 0

abbrev pub GivesAssumed : Type 0 → Type 1
GivesAssumed D = Test → Width → D → D → Option (D × D) → Type 0

abbrev pub GivesRange : Type 0 → Type 1
GivesRange D = D → ℕ × ℕ → Type 0

-- what a test against one number leaves of the value
abbrev pub IsLeft : {D : Type 0} → GivesConstant D → GivesAssumed D → Test → D → ℕ → D → Type 0
IsLeft {D = D} constant assumed test value number left =
    (one : D) × (other : D) × constant number one
    × assumed test Bits64 value one (Some (left, other))

-- what a range leaves of the value
abbrev pub IsWithinRange : {D : Type 0} → GivesConstant D → GivesAssumed D → D → ℕ × ℕ → D → Type 0
IsWithinRange {D = D} constant assumed value range left =
    (above : D) × IsLeft constant assumed GreaterOrEqual value range.0 above
    × IsLeft constant assumed LessOrEqual above range.1 left

-- what a range of one number leaves of the value; any other range leaves it unchanged
pub record IsWithinSingle {D : Type 0} (constant : GivesConstant D) (assumed : GivesAssumed D)
    (value : D) (range : ℕ × ℕ) (left : D) : Type 0 where
  pub single : range.0 ≡ range.1 → IsLeft constant assumed Equal value range.0 left
  pub many : (range.0 ≡ range.1 → ⊥) → left ≡ value

-- the pair of the first domain's and the second domain's value, each narrowed by the other
pub record IsNarrowed {A B : Type 0} (constant : GivesConstant A) (assumed : GivesAssumed A)
    (ranges : GivesRange A) (other_constant : GivesConstant B) (other_assumed : GivesAssumed B)
    (other_ranges : GivesRange B) (first : A) (second : B) (pair : Pair A B) : Type 0 where
  pub first_narrowed : (range : ℕ × ℕ) × other_ranges second range
      × IsWithinRange constant assumed first range pair.first
  pub second_narrowed : (range : ℕ × ℕ) × ranges pair.first range
      × IsWithinSingle other_constant other_assumed second range pair.second
