-- How narrow intervals are: their bounds lie within what unsigned and signed bounds give alone.
use Rattle.std.specs.Prelude.{ℕ, Option, Some, IfSome}
use Rattle.isa.specs.declared.instruction.Width.{Width}
use Rattle.isa.specs.declared.instruction.Operation.{Operation}
use Rattle.isa.specs.declared.instruction.Test.{Test}
use Rattle.isa.specs.Arithmetic.{low, test_holds}
use Rattle.interval.specs.declared.span.Span.{Span}
use Rattle.interval.specs.declared.value.Interval.{Interval}
use Rattle.interval.specs.Bounds.{Bounds, bounds_of, cut_bounds, IsInside}
use Rattle.interval.specs.Results.{IsNarrowResult}
use Rattle.interval.specs.Order.{IsTrimmed, IsTightAnswer, StaysInside}
use Rattle.interval.specs.Signs.{biased_number, IsNarrowSigned, TrimsSigned}
use Rattle.interval.specs.Members.{IsMember}

-- the unsigned bounds of a result
abbrev pub IsNarrowUnsignedPart : Operation → Width → Interval → Interval → Interval → Type 0
IsNarrowUnsignedPart operation w left right result =
    (b : Bounds)
    × IsNarrowResult w operation (cut_bounds w (bounds_of left.unsigned))
    (cut_bounds w (bounds_of right.unsigned)) b
    × IsInside (bounds_of result.unsigned) b

-- the signed bounds of a result, if there is one
abbrev pub IsNarrowSignedPart : Operation → Width → Interval → Interval → Interval → Type 0
IsNarrowSignedPart operation w left right result =
    (b : Bounds)
    × IsNarrowSigned w operation (bounds_of left.signed) (bounds_of right.signed) b
    × ((x y : ℕ) → IsMember left x → IsMember right y → IsInside (bounds_of result.signed) b)

pub record IsNarrowInterval (operation : Operation) (w : Width) (left right result : Interval)
    : Type 0 where
  pub unsigned : IsNarrowUnsignedPart operation w left right result
  pub signed : IsNarrowSignedPart operation w left right result

-- Signed bounds are trimmed whatever the operands: each that is left belongs to a pair that meets
-- the test.
pub record IsTrimmedSigned (test : Test) (w : Width) (left right : Span)
    (answer : Option (Span × Span)) : Type 0 where
  pub inside : StaysInside left right answer
  pub tight : TrimsSigned w test
      → IsTightAnswer (λ a b. test_holds w test (low w (biased_number a)) (low w (biased_number b)))
      left right answer

-- what is left lies within what unsigned and signed bounds are trimmed to
pub record IsTrimmedInterval (test : Test) (w : Width) (left right : Interval)
    (both : Interval × Interval) : Type 0 where
  pub unsigned : (found : Span × Span)
      × IsTrimmed test w left.unsigned right.unsigned (Some found)
      × IsInside (bounds_of both.0.unsigned) (bounds_of found.0)
      × IsInside (bounds_of both.1.unsigned) (bounds_of found.1)
  pub signed : (found : Span × Span)
      × IsTrimmedSigned test w left.signed right.signed (Some found)
      × IsInside (bounds_of both.0.signed) (bounds_of found.0)
      × IsInside (bounds_of both.1.signed) (bounds_of found.1)

abbrev pub IsTrimmedAnswer : Test → Width → Interval → Interval → Option (Interval × Interval)
    → Type 0
IsTrimmedAnswer test w left right answer = IfSome answer (IsTrimmedInterval test w left right)
