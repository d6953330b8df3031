-- The bytes that spell an instruction determine it: it is recovered from its fields.
use Rattle.std.proofs.Common.{◌≡◌, ℕ, ◌+◌, ◌*◌, ◌/◌, ◌%◌, ◌^◌, ◌<◌, ℤ, Bool, true, false, List}
use Rattle.std.proofs.Common.{refl, ap, ◌∙◌, arith}
use Rattle.std.specs.Prelude.{FitsSigned, ◌==◌, if◌then◌else◌, slice_index}
use Rattle.std.specs.Int.{w16, w32, cast_signed, cast_unsigned}
use Rattle.std.proofs.lemmas.Int.{to_z-of_z, ints}
use Rattle.isa.specs.declared.fields.Fields.{Fields}
use Rattle.isa.specs.declared.instruction.Instruction.{Instruction}
use Rattle.isa.specs.declared.instruction.Instruction.TheVariants.{Arithmetic, Negate, SignExtend}
use Rattle.isa.specs.declared.instruction.Instruction.TheVariants.{Reorder, Jump, LongJump, Branch}
use Rattle.isa.specs.declared.instruction.Instruction.TheVariants.{Call, Exit, Load, Store}
use Rattle.isa.specs.declared.instruction.Instruction.TheVariants.{LoadNumber, LoadMap}
use Rattle.isa.specs.declared.instruction.Width.{Width}
use Rattle.isa.specs.declared.instruction.Width.TheVariants.{Bits32, Bits64}
use Rattle.isa.specs.declared.instruction.Operation.{Operation}
use Rattle.isa.specs.declared.instruction.Operation.TheVariants as operations
use Rattle.isa.specs.declared.instruction.Test.{Test}
use Rattle.isa.specs.declared.instruction.Test.TheVariants as tests
use Rattle.isa.specs.declared.instruction.Source.{Source}
use Rattle.isa.specs.declared.instruction.Source.TheVariants as sources
use Rattle.isa.specs.declared.instruction.Extension.{Extension}
use Rattle.isa.specs.declared.instruction.Extension.TheVariants as extensions
use Rattle.isa.specs.declared.instruction.ByteOrder.{ByteOrder}
use Rattle.isa.specs.declared.instruction.ByteOrder.TheVariants as orders
use Rattle.isa.specs.declared.instruction.SwapWidth.{SwapWidth}
use Rattle.isa.specs.declared.instruction.SwapWidth.TheVariants as swaps
use Rattle.isa.specs.declared.instruction.LoadSize.{LoadSize}
use Rattle.isa.specs.declared.instruction.LoadSize.TheVariants as loads
use Rattle.isa.specs.declared.instruction.StoreSize.{StoreSize}
use Rattle.isa.specs.declared.instruction.StoreSize.TheVariants as stores
use Rattle.isa.specs.Code.{IsInstruction, is_wide}
use Rattle.isa.specs.Spelling.{fields_of, second_half}

-- ---- the tables, from right to left

abbrev operation_from : ℕ → ℕ → Operation
operation_from code offset =
    if code == 0 then operations.Add else
    if code == 1 then operations.Subtract else
    if code == 2 then operations.Multiply else
    if code == 4 then operations.Or else
    if code == 5 then operations.And else
    if code == 6 then operations.ShiftLeft else
    if code == 7 then operations.ShiftRight else
    if code == 10 then operations.Xor else
    if code == 11 then operations.Move else
    if code == 3 then (if offset == 1 then operations.SignedDivide else operations.Divide) else
    if code == 9 then (if offset == 1 then operations.SignedModulo else operations.Modulo) else
    operations.ArithmeticShiftRight

abbrev test_from : ℕ → Test
test_from code =
    if code == 1 then tests.Equal else
    if code == 2 then tests.Greater else
    if code == 3 then tests.GreaterOrEqual else
    if code == 4 then tests.AnyBitSet else
    if code == 5 then tests.NotEqual else
    if code == 6 then tests.SignedGreater else
    if code == 7 then tests.SignedGreaterOrEqual else
    if code == 10 then tests.Less else
    if code == 11 then tests.LessOrEqual else
    if code == 12 then tests.SignedLess else tests.SignedLessOrEqual

abbrev source_from : ℕ → ℕ → ℕ → Source
source_from bit register number = if bit == 0 then sources.Immediate (cast_signed w32 number) else
    sources.Register register

abbrev load_from : ℕ → LoadSize
load_from code =
    if code == 12 then loads.Unsigned32 else
    if code == 13 then loads.Unsigned16 else
    if code == 14 then loads.Unsigned8 else
    if code == 15 then loads.Unsigned64 else
    if code == 16 then loads.Signed32 else
    if code == 17 then loads.Signed16 else loads.Signed8

abbrev store_from : ℕ → StoreSize
store_from code =
    if code == 12 then stores.Bits32 else
    if code == 13 then stores.Bits16 else
    if code == 14 then stores.Bits8 else stores.Bits64

abbrev swap_from : ℕ → SwapWidth
swap_from number = if number == 16 then swaps.Bits16 else if number == 32 then swaps.Bits32 else
    swaps.Bits64

abbrev order_from : ℕ → ByteOrder
order_from opcode = if opcode == 212 then orders.Little else if opcode == 220 then orders.Big else
    orders.Swap

abbrev extension_from : Width → ℕ → Extension
extension_from width offset = if offset == 8 then extensions.Byte width else if offset == 16 then
    extensions.Half width else extensions.Word

abbrev arithmetic_from : Width → Fields → Instruction
arithmetic_from width f =
    if f.opcode / 16 == 8 then Negate width f.target else
    if f.opcode / 16 == 13 then Reorder (order_from f.opcode) (swap_from f.immediate) f.target else
    if f.opcode / 16 == 11 then
    (if f.offset == 0 then Arithmetic width operations.Move f.target
    (source_from (f.opcode / 8 % 2) f.source f.immediate)
    else SignExtend (extension_from width f.offset) f.target f.source) else
    Arithmetic width (operation_from (f.opcode / 16) f.offset) f.target
    (source_from (f.opcode / 8 % 2) f.source f.immediate)

abbrev jump_from : Width → Fields → Instruction
jump_from width f =
    if f.opcode == 5 then Jump (cast_signed w16 f.offset) else
    if f.opcode == 6 then LongJump (cast_signed w32 f.immediate) else
    if f.opcode == 133 then Call (cast_signed w32 f.immediate) else
    if f.opcode == 149 then Exit else
    Branch width (test_from (f.opcode / 16)) f.target
    (source_from (f.opcode / 8 % 2) f.source f.immediate) (cast_signed w16 f.offset)

abbrev short_from : Fields → Instruction
short_from f =
    if f.opcode % 8 == 1 then Load (load_from (f.opcode / 8)) f.target f.source
    (cast_signed w16 f.offset) else
    if f.opcode % 8 == 2 then Store (store_from (f.opcode / 8)) f.target (cast_signed w16 f.offset)
    (sources.Immediate (cast_signed w32 f.immediate)) else
    if f.opcode % 8 == 3 then Store (store_from (f.opcode / 8)) f.target (cast_signed w16 f.offset)
    (sources.Register f.source) else
    if f.opcode % 8 == 4 then arithmetic_from Bits32 f else
    if f.opcode % 8 == 5 then jump_from Bits64 f else
    if f.opcode % 8 == 6 then jump_from Bits32 f else arithmetic_from Bits64 f

abbrev wide_from : Fields → ℕ → Instruction
wide_from f second = if f.source == 0 then LoadNumber f.target (second * 2 ^ 32 + f.immediate) else
    LoadMap f.target (cast_signed w32 f.immediate) (cast_signed w32 second)

-- the instruction with these fields and this number in its second slot
abbrev pub instruction_from : Fields → ℕ → Instruction
instruction_from f second = if f.opcode % 8 == 0 then wide_from f second else short_from f

-- the number that the eight bytes of a second slot hold
abbrev pub number_of_half : List ℕ → ℕ
number_of_half bytes = slice_index bytes 4 + 256 * slice_index bytes 5 + 65536 * slice_index bytes 6
    + 16777216 * slice_index bytes 7

half : (z : ℤ) → FitsSigned w16 z → cast_signed w16 (cast_unsigned w16 z) ≡ z
half z f = to_z-of_z w16 z f

word : (z : ℤ) → FitsSigned w32 z → cast_signed w32 (cast_unsigned w32 z) ≡ z
word z f = to_z-of_z w32 z f

number_half : (n : ℕ) → n < 2 ^ 32
    → n % 256 + 256 * (n / 256 % 256) + 65536 * (n / 65536 % 256) + 16777216 * (n / 16777216 % 256)
    ≡ n
number_half n fits = omega arith

-- An instruction is recovered from its fields.
pub recovered : (i : Instruction) → IsInstruction i
    → instruction_from (fields_of i) (number_of_half (second_half i)) ≡ i
recovered (Arithmetic Bits32 operations.Add t (sources.Immediate n)) h =
    ap (λ m. Arithmetic Bits32 operations.Add t (sources.Immediate m)) (word n h.1)
recovered (Arithmetic Bits32 operations.Add t (sources.Register r)) h = refl
recovered (Arithmetic Bits32 operations.Subtract t (sources.Immediate n)) h =
    ap (λ m. Arithmetic Bits32 operations.Subtract t (sources.Immediate m)) (word n h.1)
recovered (Arithmetic Bits32 operations.Subtract t (sources.Register r)) h = refl
recovered (Arithmetic Bits32 operations.Multiply t (sources.Immediate n)) h =
    ap (λ m. Arithmetic Bits32 operations.Multiply t (sources.Immediate m)) (word n h.1)
recovered (Arithmetic Bits32 operations.Multiply t (sources.Register r)) h = refl
recovered (Arithmetic Bits32 operations.Divide t (sources.Immediate n)) h =
    ap (λ m. Arithmetic Bits32 operations.Divide t (sources.Immediate m)) (word n h.1)
recovered (Arithmetic Bits32 operations.Divide t (sources.Register r)) h = refl
recovered (Arithmetic Bits32 operations.SignedDivide t (sources.Immediate n)) h =
    ap (λ m. Arithmetic Bits32 operations.SignedDivide t (sources.Immediate m)) (word n h.1)
recovered (Arithmetic Bits32 operations.SignedDivide t (sources.Register r)) h = refl
recovered (Arithmetic Bits32 operations.Or t (sources.Immediate n)) h =
    ap (λ m. Arithmetic Bits32 operations.Or t (sources.Immediate m)) (word n h.1)
recovered (Arithmetic Bits32 operations.Or t (sources.Register r)) h = refl
recovered (Arithmetic Bits32 operations.And t (sources.Immediate n)) h =
    ap (λ m. Arithmetic Bits32 operations.And t (sources.Immediate m)) (word n h.1)
recovered (Arithmetic Bits32 operations.And t (sources.Register r)) h = refl
recovered (Arithmetic Bits32 operations.ShiftLeft t (sources.Immediate n)) h =
    ap (λ m. Arithmetic Bits32 operations.ShiftLeft t (sources.Immediate m)) (word n h.1)
recovered (Arithmetic Bits32 operations.ShiftLeft t (sources.Register r)) h = refl
recovered (Arithmetic Bits32 operations.ShiftRight t (sources.Immediate n)) h =
    ap (λ m. Arithmetic Bits32 operations.ShiftRight t (sources.Immediate m)) (word n h.1)
recovered (Arithmetic Bits32 operations.ShiftRight t (sources.Register r)) h = refl
recovered (Arithmetic Bits32 operations.Modulo t (sources.Immediate n)) h =
    ap (λ m. Arithmetic Bits32 operations.Modulo t (sources.Immediate m)) (word n h.1)
recovered (Arithmetic Bits32 operations.Modulo t (sources.Register r)) h = refl
recovered (Arithmetic Bits32 operations.SignedModulo t (sources.Immediate n)) h =
    ap (λ m. Arithmetic Bits32 operations.SignedModulo t (sources.Immediate m)) (word n h.1)
recovered (Arithmetic Bits32 operations.SignedModulo t (sources.Register r)) h = refl
recovered (Arithmetic Bits32 operations.Xor t (sources.Immediate n)) h =
    ap (λ m. Arithmetic Bits32 operations.Xor t (sources.Immediate m)) (word n h.1)
recovered (Arithmetic Bits32 operations.Xor t (sources.Register r)) h = refl
recovered (Arithmetic Bits32 operations.Move t (sources.Immediate n)) h =
    ap (λ m. Arithmetic Bits32 operations.Move t (sources.Immediate m)) (word n h.1)
recovered (Arithmetic Bits32 operations.Move t (sources.Register r)) h = refl
recovered (Arithmetic Bits32 operations.ArithmeticShiftRight t (sources.Immediate n)) h =
    ap (λ m. Arithmetic Bits32 operations.ArithmeticShiftRight t (sources.Immediate m)) (word n h.1)
recovered (Arithmetic Bits32 operations.ArithmeticShiftRight t (sources.Register r)) h = refl
recovered (Arithmetic Bits64 operations.Add t (sources.Immediate n)) h =
    ap (λ m. Arithmetic Bits64 operations.Add t (sources.Immediate m)) (word n h.1)
recovered (Arithmetic Bits64 operations.Add t (sources.Register r)) h = refl
recovered (Arithmetic Bits64 operations.Subtract t (sources.Immediate n)) h =
    ap (λ m. Arithmetic Bits64 operations.Subtract t (sources.Immediate m)) (word n h.1)
recovered (Arithmetic Bits64 operations.Subtract t (sources.Register r)) h = refl
recovered (Arithmetic Bits64 operations.Multiply t (sources.Immediate n)) h =
    ap (λ m. Arithmetic Bits64 operations.Multiply t (sources.Immediate m)) (word n h.1)
recovered (Arithmetic Bits64 operations.Multiply t (sources.Register r)) h = refl
recovered (Arithmetic Bits64 operations.Divide t (sources.Immediate n)) h =
    ap (λ m. Arithmetic Bits64 operations.Divide t (sources.Immediate m)) (word n h.1)
recovered (Arithmetic Bits64 operations.Divide t (sources.Register r)) h = refl
recovered (Arithmetic Bits64 operations.SignedDivide t (sources.Immediate n)) h =
    ap (λ m. Arithmetic Bits64 operations.SignedDivide t (sources.Immediate m)) (word n h.1)
recovered (Arithmetic Bits64 operations.SignedDivide t (sources.Register r)) h = refl
recovered (Arithmetic Bits64 operations.Or t (sources.Immediate n)) h =
    ap (λ m. Arithmetic Bits64 operations.Or t (sources.Immediate m)) (word n h.1)
recovered (Arithmetic Bits64 operations.Or t (sources.Register r)) h = refl
recovered (Arithmetic Bits64 operations.And t (sources.Immediate n)) h =
    ap (λ m. Arithmetic Bits64 operations.And t (sources.Immediate m)) (word n h.1)
recovered (Arithmetic Bits64 operations.And t (sources.Register r)) h = refl
recovered (Arithmetic Bits64 operations.ShiftLeft t (sources.Immediate n)) h =
    ap (λ m. Arithmetic Bits64 operations.ShiftLeft t (sources.Immediate m)) (word n h.1)
recovered (Arithmetic Bits64 operations.ShiftLeft t (sources.Register r)) h = refl
recovered (Arithmetic Bits64 operations.ShiftRight t (sources.Immediate n)) h =
    ap (λ m. Arithmetic Bits64 operations.ShiftRight t (sources.Immediate m)) (word n h.1)
recovered (Arithmetic Bits64 operations.ShiftRight t (sources.Register r)) h = refl
recovered (Arithmetic Bits64 operations.Modulo t (sources.Immediate n)) h =
    ap (λ m. Arithmetic Bits64 operations.Modulo t (sources.Immediate m)) (word n h.1)
recovered (Arithmetic Bits64 operations.Modulo t (sources.Register r)) h = refl
recovered (Arithmetic Bits64 operations.SignedModulo t (sources.Immediate n)) h =
    ap (λ m. Arithmetic Bits64 operations.SignedModulo t (sources.Immediate m)) (word n h.1)
recovered (Arithmetic Bits64 operations.SignedModulo t (sources.Register r)) h = refl
recovered (Arithmetic Bits64 operations.Xor t (sources.Immediate n)) h =
    ap (λ m. Arithmetic Bits64 operations.Xor t (sources.Immediate m)) (word n h.1)
recovered (Arithmetic Bits64 operations.Xor t (sources.Register r)) h = refl
recovered (Arithmetic Bits64 operations.Move t (sources.Immediate n)) h =
    ap (λ m. Arithmetic Bits64 operations.Move t (sources.Immediate m)) (word n h.1)
recovered (Arithmetic Bits64 operations.Move t (sources.Register r)) h = refl
recovered (Arithmetic Bits64 operations.ArithmeticShiftRight t (sources.Immediate n)) h =
    ap (λ m. Arithmetic Bits64 operations.ArithmeticShiftRight t (sources.Immediate m)) (word n h.1)
recovered (Arithmetic Bits64 operations.ArithmeticShiftRight t (sources.Register r)) h = refl
recovered (Negate Bits32 t) h = refl
recovered (Negate Bits64 t) h = refl
recovered (SignExtend (extensions.Byte Bits32) t s) h = refl
recovered (SignExtend (extensions.Byte Bits64) t s) h = refl
recovered (SignExtend (extensions.Half Bits32) t s) h = refl
recovered (SignExtend (extensions.Half Bits64) t s) h = refl
recovered (SignExtend extensions.Word t s) h = refl
recovered (Reorder orders.Little swaps.Bits16 t) h = refl
recovered (Reorder orders.Little swaps.Bits32 t) h = refl
recovered (Reorder orders.Little swaps.Bits64 t) h = refl
recovered (Reorder orders.Big swaps.Bits16 t) h = refl
recovered (Reorder orders.Big swaps.Bits32 t) h = refl
recovered (Reorder orders.Big swaps.Bits64 t) h = refl
recovered (Reorder orders.Swap swaps.Bits16 t) h = refl
recovered (Reorder orders.Swap swaps.Bits32 t) h = refl
recovered (Reorder orders.Swap swaps.Bits64 t) h = refl
recovered (Jump d) h = ap Jump (half d h)
recovered (LongJump d) h = ap LongJump (word d h)
recovered (Branch Bits32 tests.Equal l (sources.Immediate n) d) h =
    ap (λ m. Branch Bits32 tests.Equal l (sources.Immediate m)
    (cast_signed w16 (cast_unsigned w16 d))) (word n h.1)
    ∙ ap (λ e. Branch Bits32 tests.Equal l (sources.Immediate n) e) (half d h.2)
recovered (Branch Bits32 tests.Equal l (sources.Register r) d) h =
    ap (λ e. Branch Bits32 tests.Equal l (sources.Register r) e) (half d h.2)
recovered (Branch Bits32 tests.Greater l (sources.Immediate n) d) h =
    ap (λ m. Branch Bits32 tests.Greater l (sources.Immediate m)
    (cast_signed w16 (cast_unsigned w16 d))) (word n h.1)
    ∙ ap (λ e. Branch Bits32 tests.Greater l (sources.Immediate n) e) (half d h.2)
recovered (Branch Bits32 tests.Greater l (sources.Register r) d) h =
    ap (λ e. Branch Bits32 tests.Greater l (sources.Register r) e) (half d h.2)
recovered (Branch Bits32 tests.GreaterOrEqual l (sources.Immediate n) d) h =
    ap (λ m. Branch Bits32 tests.GreaterOrEqual l (sources.Immediate m)
    (cast_signed w16 (cast_unsigned w16 d))) (word n h.1)
    ∙ ap (λ e. Branch Bits32 tests.GreaterOrEqual l (sources.Immediate n) e) (half d h.2)
recovered (Branch Bits32 tests.GreaterOrEqual l (sources.Register r) d) h =
    ap (λ e. Branch Bits32 tests.GreaterOrEqual l (sources.Register r) e) (half d h.2)
recovered (Branch Bits32 tests.AnyBitSet l (sources.Immediate n) d) h =
    ap (λ m. Branch Bits32 tests.AnyBitSet l (sources.Immediate m)
    (cast_signed w16 (cast_unsigned w16 d))) (word n h.1)
    ∙ ap (λ e. Branch Bits32 tests.AnyBitSet l (sources.Immediate n) e) (half d h.2)
recovered (Branch Bits32 tests.AnyBitSet l (sources.Register r) d) h =
    ap (λ e. Branch Bits32 tests.AnyBitSet l (sources.Register r) e) (half d h.2)
recovered (Branch Bits32 tests.NotEqual l (sources.Immediate n) d) h =
    ap (λ m. Branch Bits32 tests.NotEqual l (sources.Immediate m)
    (cast_signed w16 (cast_unsigned w16 d))) (word n h.1)
    ∙ ap (λ e. Branch Bits32 tests.NotEqual l (sources.Immediate n) e) (half d h.2)
recovered (Branch Bits32 tests.NotEqual l (sources.Register r) d) h =
    ap (λ e. Branch Bits32 tests.NotEqual l (sources.Register r) e) (half d h.2)
recovered (Branch Bits32 tests.SignedGreater l (sources.Immediate n) d) h =
    ap (λ m. Branch Bits32 tests.SignedGreater l (sources.Immediate m)
    (cast_signed w16 (cast_unsigned w16 d))) (word n h.1)
    ∙ ap (λ e. Branch Bits32 tests.SignedGreater l (sources.Immediate n) e) (half d h.2)
recovered (Branch Bits32 tests.SignedGreater l (sources.Register r) d) h =
    ap (λ e. Branch Bits32 tests.SignedGreater l (sources.Register r) e) (half d h.2)
recovered (Branch Bits32 tests.SignedGreaterOrEqual l (sources.Immediate n) d) h =
    ap (λ m. Branch Bits32 tests.SignedGreaterOrEqual l (sources.Immediate m)
    (cast_signed w16 (cast_unsigned w16 d))) (word n h.1)
    ∙ ap (λ e. Branch Bits32 tests.SignedGreaterOrEqual l (sources.Immediate n) e)
    (half d h.2)
recovered (Branch Bits32 tests.SignedGreaterOrEqual l (sources.Register r) d) h =
    ap (λ e. Branch Bits32 tests.SignedGreaterOrEqual l (sources.Register r) e) (half d h.2)
recovered (Branch Bits32 tests.Less l (sources.Immediate n) d) h =
    ap (λ m. Branch Bits32 tests.Less l (sources.Immediate m)
    (cast_signed w16 (cast_unsigned w16 d))) (word n h.1)
    ∙ ap (λ e. Branch Bits32 tests.Less l (sources.Immediate n) e) (half d h.2)
recovered (Branch Bits32 tests.Less l (sources.Register r) d) h =
    ap (λ e. Branch Bits32 tests.Less l (sources.Register r) e) (half d h.2)
recovered (Branch Bits32 tests.LessOrEqual l (sources.Immediate n) d) h =
    ap (λ m. Branch Bits32 tests.LessOrEqual l (sources.Immediate m)
    (cast_signed w16 (cast_unsigned w16 d))) (word n h.1)
    ∙ ap (λ e. Branch Bits32 tests.LessOrEqual l (sources.Immediate n) e) (half d h.2)
recovered (Branch Bits32 tests.LessOrEqual l (sources.Register r) d) h =
    ap (λ e. Branch Bits32 tests.LessOrEqual l (sources.Register r) e) (half d h.2)
recovered (Branch Bits32 tests.SignedLess l (sources.Immediate n) d) h =
    ap (λ m. Branch Bits32 tests.SignedLess l (sources.Immediate m)
    (cast_signed w16 (cast_unsigned w16 d))) (word n h.1)
    ∙ ap (λ e. Branch Bits32 tests.SignedLess l (sources.Immediate n) e) (half d h.2)
recovered (Branch Bits32 tests.SignedLess l (sources.Register r) d) h =
    ap (λ e. Branch Bits32 tests.SignedLess l (sources.Register r) e) (half d h.2)
recovered (Branch Bits32 tests.SignedLessOrEqual l (sources.Immediate n) d) h =
    ap (λ m. Branch Bits32 tests.SignedLessOrEqual l (sources.Immediate m)
    (cast_signed w16 (cast_unsigned w16 d))) (word n h.1)
    ∙ ap (λ e. Branch Bits32 tests.SignedLessOrEqual l (sources.Immediate n) e) (half d h.2)
recovered (Branch Bits32 tests.SignedLessOrEqual l (sources.Register r) d) h =
    ap (λ e. Branch Bits32 tests.SignedLessOrEqual l (sources.Register r) e) (half d h.2)
recovered (Branch Bits64 tests.Equal l (sources.Immediate n) d) h =
    ap (λ m. Branch Bits64 tests.Equal l (sources.Immediate m)
    (cast_signed w16 (cast_unsigned w16 d))) (word n h.1)
    ∙ ap (λ e. Branch Bits64 tests.Equal l (sources.Immediate n) e) (half d h.2)
recovered (Branch Bits64 tests.Equal l (sources.Register r) d) h =
    ap (λ e. Branch Bits64 tests.Equal l (sources.Register r) e) (half d h.2)
recovered (Branch Bits64 tests.Greater l (sources.Immediate n) d) h =
    ap (λ m. Branch Bits64 tests.Greater l (sources.Immediate m)
    (cast_signed w16 (cast_unsigned w16 d))) (word n h.1)
    ∙ ap (λ e. Branch Bits64 tests.Greater l (sources.Immediate n) e) (half d h.2)
recovered (Branch Bits64 tests.Greater l (sources.Register r) d) h =
    ap (λ e. Branch Bits64 tests.Greater l (sources.Register r) e) (half d h.2)
recovered (Branch Bits64 tests.GreaterOrEqual l (sources.Immediate n) d) h =
    ap (λ m. Branch Bits64 tests.GreaterOrEqual l (sources.Immediate m)
    (cast_signed w16 (cast_unsigned w16 d))) (word n h.1)
    ∙ ap (λ e. Branch Bits64 tests.GreaterOrEqual l (sources.Immediate n) e) (half d h.2)
recovered (Branch Bits64 tests.GreaterOrEqual l (sources.Register r) d) h =
    ap (λ e. Branch Bits64 tests.GreaterOrEqual l (sources.Register r) e) (half d h.2)
recovered (Branch Bits64 tests.AnyBitSet l (sources.Immediate n) d) h =
    ap (λ m. Branch Bits64 tests.AnyBitSet l (sources.Immediate m)
    (cast_signed w16 (cast_unsigned w16 d))) (word n h.1)
    ∙ ap (λ e. Branch Bits64 tests.AnyBitSet l (sources.Immediate n) e) (half d h.2)
recovered (Branch Bits64 tests.AnyBitSet l (sources.Register r) d) h =
    ap (λ e. Branch Bits64 tests.AnyBitSet l (sources.Register r) e) (half d h.2)
recovered (Branch Bits64 tests.NotEqual l (sources.Immediate n) d) h =
    ap (λ m. Branch Bits64 tests.NotEqual l (sources.Immediate m)
    (cast_signed w16 (cast_unsigned w16 d))) (word n h.1)
    ∙ ap (λ e. Branch Bits64 tests.NotEqual l (sources.Immediate n) e) (half d h.2)
recovered (Branch Bits64 tests.NotEqual l (sources.Register r) d) h =
    ap (λ e. Branch Bits64 tests.NotEqual l (sources.Register r) e) (half d h.2)
recovered (Branch Bits64 tests.SignedGreater l (sources.Immediate n) d) h =
    ap (λ m. Branch Bits64 tests.SignedGreater l (sources.Immediate m)
    (cast_signed w16 (cast_unsigned w16 d))) (word n h.1)
    ∙ ap (λ e. Branch Bits64 tests.SignedGreater l (sources.Immediate n) e) (half d h.2)
recovered (Branch Bits64 tests.SignedGreater l (sources.Register r) d) h =
    ap (λ e. Branch Bits64 tests.SignedGreater l (sources.Register r) e) (half d h.2)
recovered (Branch Bits64 tests.SignedGreaterOrEqual l (sources.Immediate n) d) h =
    ap (λ m. Branch Bits64 tests.SignedGreaterOrEqual l (sources.Immediate m)
    (cast_signed w16 (cast_unsigned w16 d))) (word n h.1)
    ∙ ap (λ e. Branch Bits64 tests.SignedGreaterOrEqual l (sources.Immediate n) e)
    (half d h.2)
recovered (Branch Bits64 tests.SignedGreaterOrEqual l (sources.Register r) d) h =
    ap (λ e. Branch Bits64 tests.SignedGreaterOrEqual l (sources.Register r) e) (half d h.2)
recovered (Branch Bits64 tests.Less l (sources.Immediate n) d) h =
    ap (λ m. Branch Bits64 tests.Less l (sources.Immediate m)
    (cast_signed w16 (cast_unsigned w16 d))) (word n h.1)
    ∙ ap (λ e. Branch Bits64 tests.Less l (sources.Immediate n) e) (half d h.2)
recovered (Branch Bits64 tests.Less l (sources.Register r) d) h =
    ap (λ e. Branch Bits64 tests.Less l (sources.Register r) e) (half d h.2)
recovered (Branch Bits64 tests.LessOrEqual l (sources.Immediate n) d) h =
    ap (λ m. Branch Bits64 tests.LessOrEqual l (sources.Immediate m)
    (cast_signed w16 (cast_unsigned w16 d))) (word n h.1)
    ∙ ap (λ e. Branch Bits64 tests.LessOrEqual l (sources.Immediate n) e) (half d h.2)
recovered (Branch Bits64 tests.LessOrEqual l (sources.Register r) d) h =
    ap (λ e. Branch Bits64 tests.LessOrEqual l (sources.Register r) e) (half d h.2)
recovered (Branch Bits64 tests.SignedLess l (sources.Immediate n) d) h =
    ap (λ m. Branch Bits64 tests.SignedLess l (sources.Immediate m)
    (cast_signed w16 (cast_unsigned w16 d))) (word n h.1)
    ∙ ap (λ e. Branch Bits64 tests.SignedLess l (sources.Immediate n) e) (half d h.2)
recovered (Branch Bits64 tests.SignedLess l (sources.Register r) d) h =
    ap (λ e. Branch Bits64 tests.SignedLess l (sources.Register r) e) (half d h.2)
recovered (Branch Bits64 tests.SignedLessOrEqual l (sources.Immediate n) d) h =
    ap (λ m. Branch Bits64 tests.SignedLessOrEqual l (sources.Immediate m)
    (cast_signed w16 (cast_unsigned w16 d))) (word n h.1)
    ∙ ap (λ e. Branch Bits64 tests.SignedLessOrEqual l (sources.Immediate n) e) (half d h.2)
recovered (Branch Bits64 tests.SignedLessOrEqual l (sources.Register r) d) h =
    ap (λ e. Branch Bits64 tests.SignedLessOrEqual l (sources.Register r) e) (half d h.2)
recovered (Call n) h = ap Call (word n h)
recovered Exit h = refl
recovered (Load loads.Unsigned8 t b o) h = ap (λ e. Load loads.Unsigned8 t b e) (half o h.2)
recovered (Load loads.Unsigned16 t b o) h = ap (λ e. Load loads.Unsigned16 t b e) (half o h.2)
recovered (Load loads.Unsigned32 t b o) h = ap (λ e. Load loads.Unsigned32 t b e) (half o h.2)
recovered (Load loads.Unsigned64 t b o) h = ap (λ e. Load loads.Unsigned64 t b e) (half o h.2)
recovered (Load loads.Signed8 t b o) h = ap (λ e. Load loads.Signed8 t b e) (half o h.2)
recovered (Load loads.Signed16 t b o) h = ap (λ e. Load loads.Signed16 t b e) (half o h.2)
recovered (Load loads.Signed32 t b o) h = ap (λ e. Load loads.Signed32 t b e) (half o h.2)
recovered (Store stores.Bits8 b o (sources.Immediate n)) h =
    ap (λ m. Store stores.Bits8 b (cast_signed w16 (cast_unsigned w16 o)) (sources.Immediate m))
    (word n h.2) ∙ ap (λ e. Store stores.Bits8 b e (sources.Immediate n)) (half o h.1)
recovered (Store stores.Bits8 b o (sources.Register r)) h =
    ap (λ e. Store stores.Bits8 b e (sources.Register r)) (half o h.1)
recovered (Store stores.Bits16 b o (sources.Immediate n)) h =
    ap (λ m. Store stores.Bits16 b (cast_signed w16 (cast_unsigned w16 o)) (sources.Immediate m))
    (word n h.2) ∙ ap (λ e. Store stores.Bits16 b e (sources.Immediate n)) (half o h.1)
recovered (Store stores.Bits16 b o (sources.Register r)) h =
    ap (λ e. Store stores.Bits16 b e (sources.Register r)) (half o h.1)
recovered (Store stores.Bits32 b o (sources.Immediate n)) h =
    ap (λ m. Store stores.Bits32 b (cast_signed w16 (cast_unsigned w16 o)) (sources.Immediate m))
    (word n h.2) ∙ ap (λ e. Store stores.Bits32 b e (sources.Immediate n)) (half o h.1)
recovered (Store stores.Bits32 b o (sources.Register r)) h =
    ap (λ e. Store stores.Bits32 b e (sources.Register r)) (half o h.1)
recovered (Store stores.Bits64 b o (sources.Immediate n)) h =
    ap (λ m. Store stores.Bits64 b (cast_signed w16 (cast_unsigned w16 o)) (sources.Immediate m))
    (word n h.2) ∙ ap (λ e. Store stores.Bits64 b e (sources.Immediate n)) (half o h.1)
recovered (Store stores.Bits64 b o (sources.Register r)) h =
    ap (λ e. Store stores.Bits64 b e (sources.Register r)) (half o h.1)
recovered (LoadNumber t n) h =
    let second = number_half (n / 2 ^ 32) (omega arith) in
    ap (λ k. LoadNumber t (k * 2 ^ 32 + n % 2 ^ 32)) second ∙ ap (λ k. LoadNumber t k) (omega arith)
recovered (LoadMap t m o) h =
    let second = number_half (cast_unsigned w32 o) (omega (arith, ints)) in
    ap (λ k. LoadMap t (cast_signed w32 (cast_unsigned w32 m)) (cast_signed w32 k)) second
    ∙ ap (λ k. LoadMap t k (cast_signed w32 (cast_unsigned w32 o))) (word m h.1)
    ∙ ap (λ k. LoadMap t m k) (word o h.2)

-- the first slot determines whether an instruction is wide
pub same_wide : (f : Fields) (m n : ℕ)
    → is_wide (instruction_from f m) ≡ is_wide (instruction_from f n)
same_wide f m n = elim (f.opcode % 8 == 0) as
    (λ b. is_wide (if b then wide_from f m else short_from f)
    ≡ is_wide (if b then wide_from f n else short_from f))
    [ true ↦ both (f.source == 0) | false ↦ refl ]
  where
    both : (b : Bool) → is_wide (if b then LoadNumber f.target (m * 2 ^ 32 + f.immediate) else
        LoadMap f.target (cast_signed w32 f.immediate) (cast_signed w32 m))
        ≡ is_wide (if b then LoadNumber f.target (n * 2 ^ 32 + f.immediate) else
        LoadMap f.target (cast_signed w32 f.immediate) (cast_signed w32 n))
    both true = refl
    both false = refl
