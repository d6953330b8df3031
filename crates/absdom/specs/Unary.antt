-- The result of an instruction that reads one number, by the machine's arithmetic.
use Rattle.std.specs.Prelude.{ℕ, ◌^◌}
use Rattle.isa.specs.declared.instruction.Extension.TheVariants.{Byte, Half, Word}
use Rattle.isa.specs.Arithmetic.{bits, negated_number, sign_extended, in_byte_order, swap_modulus}
use Rattle.absdom.specs.declared.unary.UnaryOperation.{UnaryOperation}
use Rattle.absdom.specs.declared.unary.UnaryOperation.TheVariants.{Negate, Extend, Reorder}

abbrev pub unary_result : UnaryOperation → ℕ → ℕ
unary_result (Negate width) n = negated_number width n
unary_result (Extend extension) n = sign_extended extension n
unary_result (Reorder order width) n = in_byte_order order width n

-- Each result is below this power of two: that of the width that is written, and for END that of
-- the bits that are kept.
abbrev pub unary_modulus : UnaryOperation → ℕ
unary_modulus (Negate width) = 2 ^ bits width
unary_modulus (Extend (Byte width)) = 2 ^ bits width
unary_modulus (Extend (Half width)) = 2 ^ bits width
unary_modulus (Extend Word) = 2 ^ 64
unary_modulus (Reorder order width) = swap_modulus width
