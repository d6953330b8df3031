-- The results of an operation on spans, and how narrow a span of them is.
use Rattle.std.specs.Prelude.{◌≡◌, ℕ, ◌+◌, ◌-◌, ◌*◌, ◌%◌, ◌<◌, ◌≤◌, ◌^◌, ◌⊎◌}
use Rattle.isa.specs.declared.instruction.Width.{Width}
use Rattle.isa.specs.declared.instruction.Operation.{Operation}
use Rattle.isa.specs.declared.instruction.Operation.TheVariants.{Add, Subtract, Multiply, Divide}
use Rattle.isa.specs.declared.instruction.Operation.TheVariants.{And, ShiftLeft, ShiftRight, Modulo}
use Rattle.isa.specs.declared.instruction.Operation.TheVariants.{Move}
use Rattle.isa.specs.Arithmetic.{bits, operate}
use Rattle.absdom.specs.declared.unary.UnaryOperation.{UnaryOperation}
use Rattle.absdom.specs.declared.unary.UnaryOperation.TheVariants.{Negate}
use Rattle.absdom.specs.Unary.{unary_modulus}
use Rattle.interval.specs.declared.span.Span.{Span}
use Rattle.interval.specs.Bounds.{IsIn, Bounds, IsBetween, IsSingle, cut_bounds}

-- the result has each result of a pair
abbrev pub HasResults : Width → Operation → Span → Span → Span → Type 0
HasResults w operation left right result =
    (a b : ℕ) → IsIn left a → IsIn right b → IsIn result (operate w operation a b)

-- n is the result for some pair
abbrev pub IsResult : Width → Operation → Bounds → Bounds → ℕ → Type 0
IsResult w operation l r n =
    (a : ℕ) × (b : ℕ) × IsBetween l a × IsBetween r b × (operate w operation a b ≡ n)

-- both bounds are results, so no span that has every result is narrower
pub record IsLeast (w : Width) (operation : Operation) (l r result : Bounds) : Type 0 where
  pub low : IsResult w operation l r result.low
  pub high : IsResult w operation l r result.high

-- How narrow the results of each operation are, on spans of numbers of the width.
abbrev pub IsNarrow : Width → Operation → Bounds → Bounds → Bounds → Type 0
-- no sum wraps, or every one does
IsNarrow w Add l r result =
    (l.high + r.high < 2 ^ bits w) ⊎ (2 ^ bits w ≤ l.low + r.low) → IsLeast w Add l r result
IsNarrow w Subtract l r result = (r.high ≤ l.low) ⊎ (l.high < r.low) → IsLeast w Subtract l r result
IsNarrow w Multiply l r result = l.high * r.high < 2 ^ bits w → IsLeast w Multiply l r result
IsNarrow w Divide l r result = (0 < r.low → IsLeast w Divide l r result) × (result.high ≤ l.high)
IsNarrow w Modulo l r result = (0 < r.low → result.high < r.high) × (result.high ≤ l.high)
IsNarrow w And l r result = (result.high ≤ l.high) × (result.high ≤ r.high)
IsNarrow w ShiftLeft l r result =
    IsSingle r → l.high * 2 ^ (r.low % bits w) < 2 ^ bits w → IsLeast w ShiftLeft l r result
IsNarrow w ShiftRight l r result =
    (IsSingle r → IsLeast w ShiftRight l r result) × (result.high ≤ l.high)
IsNarrow w Move l r result = result ≡ r
-- every number of the width, which IsNarrowResult says
IsNarrow w other l r result = Unit {0}

pub record IsNarrowResult (w : Width) (operation : Operation) (l r result : Bounds) : Type 0 where
  -- two single numbers give their result alone
  pub single : IsSingle l → IsSingle r → IsSingle result
  pub narrow : (IsSingle l × IsSingle r → ⊥) → IsNarrow w operation l r result
  -- no result has more bits than the width
  pub small : result.high < 2 ^ bits w

-- How narrow the results of an operation on one number are. The negations of the numbers from m to
-- n, with m above 0, run from the modulus minus n to the modulus minus m.
abbrev pub IsNarrowUnary : UnaryOperation → Bounds → Bounds → Type 0
IsNarrowUnary (Negate w) operand result =
    0 < (cut_bounds w operand).low
    → (result.low ≡ 2 ^ bits w - (cut_bounds w operand).high)
    × (result.high ≡ 2 ^ bits w - (cut_bounds w operand).low)
-- every number below the modulus, which IsNarrowUnaryResult says
IsNarrowUnary other operand result = Unit {0}

pub record IsNarrowUnaryResult (operation : UnaryOperation) (operand result : Bounds) : Type 0 where
  -- a single number gives its result alone
  pub single : IsSingle operand → IsSingle result
  pub narrow : (IsSingle operand → ⊥) → IsNarrowUnary operation operand result
  pub small : result.high < unary_modulus operation
