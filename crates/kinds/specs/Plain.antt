-- Registers that are known to hold numbers.
use Rattle.std.specs.Prelude.{ℕ, ◌<◌, List, slice_index_or}
use Rattle.std.specs.List.{AllByRecursion}
use Rattle.isa.specs.declared.instruction.Source.{Source}
use Rattle.isa.specs.Flow.{source_registers}
use Rattle.kinds.specs.declared.state.Kind.{Kind}
use Rattle.kinds.specs.declared.state.Kind.TheVariants as kinds
use Rattle.kinds.specs.declared.state.AbstractState.{AbstractState}

-- the kind is one of numbers
abbrev pub IsNumber : {D : Type 0} → Kind D → Type 0
IsNumber (kinds.Number value) = Unit {0}
IsNumber other = ⊥

-- what is known of the register in a list of kinds
abbrev pub kind_in : {D : Type 0} → List (Kind D) → ℕ → Kind D
kind_in known r = slice_index_or known r kinds.Unknown

-- the register is one of r0 to r9 and is known to hold a number
pub record HoldsNumber {D : Type 0} (state : AbstractState D) (r : ℕ) : Type 0 where
  pub low : r < 10
  pub number : IsNumber (kind_in state.kinds.items r)

-- the operand is known to be a number: the register, if it is one, is
abbrev pub OperandHoldsNumber : {D : Type 0} → AbstractState D → Source → Type 0
OperandHoldsNumber state source = AllByRecursion (HoldsNumber state) (source_registers source)
