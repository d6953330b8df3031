-- A result has no more bits than its width.
use Rattle.std.proofs.Common.{◌≡◌, ℕ, zero, suc, ◌/◌, ◌%◌, ◌<◌, ◌≤◌, ◌^◌, Bool, true, false, arith}
use Rattle.std.specs.Prelude.{ℤ, pos, negsuc, neg_ℤ, ◌==◌, unsigned_abs, int_div, int_rem}
use Rattle.std.specs.Prelude.{if◌then◌else◌}
use Rattle.std.specs.Int.{int_shr}
use Rattle.std.proofs.Math.Nat.{div-le_self}
use Rattle.std.proofs.lemmas.Int.{ints}
use Rattle.std.proofs.lemmas.Nat.{and_le_l, or_lt, xor_lt}
use Rattle.isa.specs.declared.instruction.Width.{Width}
use Rattle.isa.specs.declared.instruction.Width.TheVariants.{Bits32, Bits64}
use Rattle.isa.specs.declared.instruction.Operation.{Operation}
use Rattle.isa.specs.declared.instruction.Operation.TheVariants.{Add, Subtract, Multiply, Divide}
use Rattle.isa.specs.declared.instruction.Operation.TheVariants.{SignedDivide, Or, And, ShiftLeft}
use Rattle.isa.specs.declared.instruction.Operation.TheVariants.{ShiftRight, Modulo, SignedModulo}
use Rattle.isa.specs.declared.instruction.Operation.TheVariants.{Xor, Move, ArithmeticShiftRight}
use Rattle.isa.specs.declared.instruction.Extension.{Extension}
use Rattle.isa.specs.declared.instruction.Extension.TheVariants as extensions
use Rattle.isa.specs.declared.instruction.ByteOrder.{ByteOrder}
use Rattle.isa.specs.declared.instruction.ByteOrder.TheVariants as orders
use Rattle.isa.specs.declared.instruction.SwapWidth.{SwapWidth}
use Rattle.isa.specs.declared.instruction.SwapWidth.TheVariants as swaps
use Rattle.isa.specs.Arithmetic.{bits, low, signed, unsigned, operate, sign_extended, in_byte_order}
use Rattle.isa.specs.Arithmetic.{swap_modulus}
use Rattle.absdom.specs.declared.unary.UnaryOperation.{UnaryOperation}
use Rattle.absdom.specs.declared.unary.UnaryOperation.TheVariants.{Negate, Extend, Reorder}
use Rattle.absdom.specs.Unary.{unary_result, unary_modulus}

pub low_below : (w : Width) (n : ℕ) → low w n < 2 ^ bits w
low_below Bits32 n = omega arith
low_below Bits64 n = omega arith

-- a number with no more bits than the width is its own low bits
pub low_same : (w : Width) (n : ℕ) → n < 2 ^ bits w → low w n ≡ n
low_same Bits32 n small = omega arith
low_same Bits64 n small = omega arith

-- a number no further from 0 than the width's power of two has the bits of the width
unsigned_below : (w : Width) (z : ℤ) → unsigned_abs z < 2 ^ bits w → unsigned w z < 2 ^ bits w
unsigned_below Bits32 (pos n) near = near
unsigned_below Bits64 (pos n) near = near
unsigned_below Bits32 (negsuc n) near = omega arith
unsigned_below Bits64 (negsuc n) near = omega arith

-- a signed reading is no further from 0 than the width's power of two
signed_near : (w : Width) (n : ℕ) → n < 2 ^ bits w → unsigned_abs (signed w n) < 2 ^ bits w
signed_near Bits32 n small = grind (arith, ints)
signed_near Bits64 n small = grind (arith, ints)

neg_near : (n m : ℕ) → n ≤ m → unsigned_abs (neg_ℤ (pos n)) ≤ m
neg_near zero m le = le
neg_near (suc n) m le = le

-- a quotient, a remainder and a shifted number are no further from 0 than the dividend
quotient_near : (a b : ℤ) → unsigned_abs (int_div a b) ≤ unsigned_abs a
quotient_near (pos a) (pos b) = div-le_self a b
quotient_near (pos a) (negsuc b) = neg_near _ _ (div-le_self a (suc b))
quotient_near (negsuc a) (pos b) = neg_near _ _ (div-le_self (suc a) b)
quotient_near (negsuc a) (negsuc b) = div-le_self (suc a) (suc b)

remainder_near : (a b : ℤ) → unsigned_abs (int_rem a b) ≤ unsigned_abs a
remainder_near (pos a) b = omega arith
remainder_near (negsuc a) b = neg_near _ _ (omega arith)

shifted_near : (a : ℤ) (k : ℕ) → unsigned_abs (int_shr a k) ≤ unsigned_abs a
shifted_near (pos a) k = div-le_self a (2 ^ k)
shifted_near (negsuc a) k = omega (arith, div-le_self a (2 ^ k))

-- a choice of two results
choice_below : (m x y : ℕ) (first : Bool) → x < m → y < m → (if first then x else y) < m
choice_below m x y true left right = left
choice_below m x y false left right = right

power_some : (w : Width) → 0 < 2 ^ bits w
power_some Bits32 = omega arith
power_some Bits64 = omega arith

modulo_below : (m a b : ℕ) → a < m → a % b < m
modulo_below m a b small = omega arith

quotient_below : (m a b : ℕ) → a < m → a / b < m
quotient_below m a b small = omega (arith, div-le_self a b)

pub operate_below : (w : Width) (operation : Operation) (a b : ℕ) → a < 2 ^ bits w → b < 2 ^ bits w
    → operate w operation a b < 2 ^ bits w
operate_below w Add a b left right = low_below w _
operate_below w Subtract a b left right = low_below w _
operate_below w Multiply a b left right = low_below w _
operate_below w Divide a b left right =
    choice_below _ 0 (a / b) (b == 0) (power_some w) (quotient_below _ a b left)
operate_below w SignedDivide a b left right =
    choice_below _ 0 _ (b == 0) (power_some w)
    (unsigned_below w (int_div (signed w a) (signed w b))
    (omega (arith, quotient_near (signed w a) (signed w b), signed_near w a left)))
operate_below w Or a b left right = or_lt (bits w) a b left right
operate_below w And a b left right = omega (arith, and_le_l a b)
operate_below w ShiftLeft a b left right = low_below w _
operate_below w ShiftRight a b left right = quotient_below _ a (2 ^ (b % bits w)) left
operate_below w Modulo a b left right =
    choice_below _ a (a % b) (b == 0) left (modulo_below _ a b left)
operate_below w SignedModulo a b left right =
    choice_below _ a _ (b == 0) left (unsigned_below w (int_rem (signed w a) (signed w b))
    (omega (arith, remainder_near (signed w a) (signed w b), signed_near w a left)))
operate_below w Xor a b left right = xor_lt (bits w) a b left right
operate_below w Move a b left right = right
operate_below w ArithmeticShiftRight a b left right =
    unsigned_below w (int_shr (signed w a) (b % bits w))
    (omega (arith, shifted_near (signed w a) (b % bits w), signed_near w a left))

extended_below : (extension : Extension) (n : ℕ)
    → sign_extended extension n < unary_modulus (Extend extension)
extended_below (extensions.Byte Bits32) n = grind (arith, ints)
extended_below (extensions.Byte Bits64) n = grind (arith, ints)
extended_below (extensions.Half Bits32) n = grind (arith, ints)
extended_below (extensions.Half Bits64) n = grind (arith, ints)
extended_below extensions.Word n = grind (arith, ints)

reordered_below : (order : ByteOrder) (w : SwapWidth) (n : ℕ)
    → in_byte_order order w n < swap_modulus w
reordered_below orders.Little swaps.Bits16 n = omega arith
reordered_below orders.Little swaps.Bits32 n = omega arith
reordered_below orders.Little swaps.Bits64 n = omega arith
reordered_below orders.Big swaps.Bits16 n = omega arith
reordered_below orders.Big swaps.Bits32 n = omega arith
reordered_below orders.Big swaps.Bits64 n = omega arith
reordered_below orders.Swap swaps.Bits16 n = omega arith
reordered_below orders.Swap swaps.Bits32 n = omega arith
reordered_below orders.Swap swaps.Bits64 n = omega arith

pub unary_below : (operation : UnaryOperation) (n : ℕ)
    → unary_result operation n < unary_modulus operation
unary_below (Negate w) n = low_below w _
unary_below (Extend extension) n = extended_below extension n
unary_below (Reorder order w) n = reordered_below order w n

pub unary_modulus_most : (operation : UnaryOperation) → unary_modulus operation ≤ 2 ^ 64
unary_modulus_most (Negate Bits32) = omega arith
unary_modulus_most (Negate Bits64) = omega arith
unary_modulus_most (Extend (extensions.Byte Bits32)) = omega arith
unary_modulus_most (Extend (extensions.Byte Bits64)) = omega arith
unary_modulus_most (Extend (extensions.Half Bits32)) = omega arith
unary_modulus_most (Extend (extensions.Half Bits64)) = omega arith
unary_modulus_most (Extend extensions.Word) = omega arith
unary_modulus_most (Reorder order swaps.Bits16) = omega arith
unary_modulus_most (Reorder order swaps.Bits32) = omega arith
unary_modulus_most (Reorder order swaps.Bits64) = omega arith
