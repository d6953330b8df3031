-- Which bits of a result are known. Their values follow, since the result has to contain every
-- number.
use Rattle.std.specs.Prelude.{◌≡◌, ℕ, ◌+◌, ◌%◌, ◌<◌, ◌≤◌, ◌^◌, ◌⊎◌, ◌-◌, Bool, IsTrue, Option, Some}
use Rattle.std.specs.Prelude.{None, IfSome, bit_and, bit_or}
use Rattle.std.specs.Int.{bit_at}
use Rattle.isa.specs.declared.instruction.Width.{Width}
use Rattle.isa.specs.declared.instruction.Operation.{Operation}
use Rattle.isa.specs.declared.instruction.Operation.TheVariants.{Add, Subtract, Or, And, ShiftLeft}
use Rattle.isa.specs.declared.instruction.Operation.TheVariants.{ShiftRight, Xor, Move}
use Rattle.isa.specs.declared.instruction.Width.TheVariants.{Bits32, Bits64}
use Rattle.isa.specs.declared.instruction.Test.{Test}
use Rattle.isa.specs.declared.instruction.Test.TheVariants.{Equal}
use Rattle.isa.specs.declared.instruction.Extension.TheVariants.{Byte, Half, Word}
use Rattle.isa.specs.declared.instruction.SwapWidth.TheVariants as swaps
use Rattle.isa.specs.Arithmetic.{bits, operate}
use Rattle.absdom.specs.declared.unary.UnaryOperation.{UnaryOperation}
use Rattle.absdom.specs.declared.unary.UnaryOperation.TheVariants.{Negate, Extend, Reorder}
use Rattle.knownbits.specs.declared.value.KnownBits.{KnownBits}
use Rattle.knownbits.specs.Masks.{HasBits, IsWithinMask, Knows, KnowsBelow}

-- a bit that is known to be 0, or to be 1
abbrev pub KnowsZero : KnownBits → ℕ → Type 0
KnowsZero known i = Knows known i × (bit_at known.value i ≡ 0)

abbrev pub KnowsOne : KnownBits → ℕ → Type 0
KnowsOne known i = Knows known i × (bit_at known.value i ≡ 1)

-- Which bits of the results are known, from what is known of two numbers of the width.
abbrev pub IsPrecise : Width → Operation → KnownBits → KnownBits → KnownBits → Type 0
-- both bits are known, or one is known to be 0
IsPrecise w And l r result =
    (i : ℕ) → i < 64 → (Knows l i × Knows r i) ⊎ KnowsZero l i ⊎ KnowsZero r i → Knows result i
-- both bits are known, or one is known to be 1
IsPrecise w Or l r result =
    (i : ℕ) → i < 64 → (Knows l i × Knows r i) ⊎ KnowsOne l i ⊎ KnowsOne r i → Knows result i
IsPrecise w Xor l r result = (i : ℕ) → i < 64 → Knows l i → Knows r i → Knows result i
-- the bits below the first one that isn't known in both
IsPrecise w Add l r result =
    (count : ℕ) → count ≤ bits w → KnowsBelow l count → KnowsBelow r count → KnowsBelow result count
IsPrecise w Subtract l r result =
    (count : ℕ) → count ≤ bits w → KnowsBelow l count → KnowsBelow r count → KnowsBelow result count
-- a single count moves the bits, and those that come in are known
IsPrecise w ShiftLeft l r result = KnowsBelow r 64 → (i : ℕ) → i < bits w →
    (i < r.value % bits w → Knows result i)
    × ((j : ℕ) → j + r.value % bits w ≡ i → Knows l j → Knows result i)
IsPrecise w ShiftRight l r result = KnowsBelow r 64 → (i : ℕ) → i < bits w →
    (bits w ≤ i + r.value % bits w → Knows result i)
    × (Knows l (i + r.value % bits w) → Knows result i)
IsPrecise w Move l r result = result ≡ r
IsPrecise w other l r result = Unit {0}

-- The low bits of the numbers; the bits above the width are known to be 0.
abbrev pub low_known : Width → KnownBits → KnownBits
low_known Bits32 known =
    record { mask = bit_or known.mask 18446744069414584320; value = bit_and known.value 4294967295 }
low_known Bits64 known = known

-- What is known of the low bits alone; nothing is known of those above the width.
abbrev pub shared_known : Width → KnownBits → KnownBits
shared_known Bits32 known =
    record { mask = bit_and known.mask 4294967295; value = bit_and known.value 4294967295 }
shared_known Bits64 known = known

-- the result has each result of a pair of numbers of the width
abbrev pub HasResults : Width → Operation → KnownBits → KnownBits → KnownBits → Type 0
HasResults w operation l r result =
    (x y : ℕ) → x < 2 ^ bits w → y < 2 ^ bits w → HasBits l x → HasBits r y
    → HasBits result (operate w operation x y)

abbrev pub KnowsUpper : Width → KnownBits → Type 0
KnowsUpper w known = (i : ℕ) → bits w ≤ i → i < 64 → Knows known i

pub record IsPreciseResult (w : Width) (operation : Operation) (l r result : KnownBits) : Type 0
  where
    -- two known numbers give a known one
    pub single : KnowsBelow l 64 → KnowsBelow r 64 → KnowsBelow result 64
    pub precise : (KnowsBelow l 64 × KnowsBelow r 64 → ⊥) → IsPrecise w operation l r result
    -- an operation of 32 bits leaves the upper half 0
    pub upper : KnowsUpper w result

-- An operation cuts its operands to its width first.
abbrev pub IsPreciseOf : Operation → Width → KnownBits → KnownBits → KnownBits → Type 0
IsPreciseOf operation w left right result =
    IsPreciseResult w operation (low_known w left) (low_known w right) result

-- The width that an instruction on one number reads and writes.
abbrev pub unary_width : UnaryOperation → Width
unary_width (Negate w) = w
unary_width (Extend (Byte w)) = w
unary_width (Extend (Half w)) = w
unary_width (Extend Word) = Bits64
unary_width (Reorder order swaps.Bits16) = Bits32
unary_width (Reorder order swaps.Bits32) = Bits32
unary_width (Reorder order swaps.Bits64) = Bits64

pub record IsPreciseUnary (operation : UnaryOperation) (operand result : KnownBits) : Type 0 where
  pub single : KnowsBelow (low_known (unary_width operation) operand) 64 → KnowsBelow result 64
  pub upper : KnowsUpper (unary_width operation) result

-- If both are known to be the same number, each side knows what either knew.
pub record KnowsBoth (left right joined : KnownBits) : Type 0 where
  pub from_left : (i : ℕ) → i < 64 → Knows left i → Knows joined i
  pub from_right : (i : ℕ) → i < 64 → Knows right i → Knows joined i

-- the two sides have different values for one of the low bits
abbrev pub Contradict : ℕ → KnownBits → KnownBits → Type 0
Contradict count left right = (i : ℕ) × (i < count) × KnowsZero left i × KnowsOne right i

-- A test that the low bits are equal joins what both sides know of them; other tests give no single
-- bits.
abbrev pub IsPreciseTest : Test → Width → KnownBits → KnownBits → Option (KnownBits × KnownBits)
    → Type 0
IsPreciseTest Equal w left right answer =
    IfSome answer
    (λ both. KnowsBoth left (shared_known w right) both.0
    × KnowsBoth right (shared_known w left) both.1)
    × (Contradict (bits w) left right ⊎ Contradict (bits w) right left → answer ≡ None)
IsPreciseTest other w left right answer = answer ≡ Some (left, right)

-- No longer run of low bits is known to be 0.
abbrev pub KnowsZerosTo : KnownBits → ℕ → Type 0
KnowsZerosTo known most =
    (count : ℕ) → count ≤ 64 → ((i : ℕ) → i < count → KnowsZero known i) → count ≤ most

-- The least number has 0 for each unknown bit, the greatest 1.
abbrev pub IsPreciseRange : KnownBits → ℕ × ℕ → Type 0
IsPreciseRange known answer =
    IsWithinMask known
    → (answer.0 ≡ known.value) × (answer.1 ≡ known.value + (18446744073709551615 - known.mask))

-- each bit that the other knows is known, with the same value
abbrev pub KnowsAllOf : KnownBits → KnownBits → Type 0
KnowsAllOf other known =
    (i : ℕ) → i < 64 → Knows other i → Knows known i × (bit_at known.value i ≡ bit_at other.value i)

-- A value that knows all that the other knows is within it.
abbrev pub IsPreciseWithin : KnownBits → KnownBits → Bool → Type 0
IsPreciseWithin known other answer = IsWithinMask other → KnowsAllOf other known → IsTrue answer
