-- The one spelling of each instruction: the encoding of RFC 9669.
use Rattle.std.specs.Prelude.{◌≡◌, ℕ, ◌+◌, ◌*◌, ◌/◌, ◌%◌, ◌^◌, ℤ, List, [], ◌∷◌, ◌++◌}
use Rattle.std.specs.List.{flat_map, AllByRecursion}
use Rattle.std.specs.Int.{w16, w32, to_le_bytes, cast_unsigned}
use Rattle.isa.specs.Code.{IsCode, slots_of}
pub use Rattle.isa.specs.Code.{IsSource, IsInstruction}
use Rattle.isa.specs.declared.fields.Fields.{Fields}
use Rattle.isa.specs.declared.instruction.Instruction.{Instruction}
use Rattle.isa.specs.declared.instruction.Instruction.TheVariants as instructions
use Rattle.isa.specs.declared.instruction.Width.{Width}
use Rattle.isa.specs.declared.instruction.Width.TheVariants.{Bits32, Bits64}
use Rattle.isa.specs.declared.instruction.Operation.{Operation}
use Rattle.isa.specs.declared.instruction.Operation.TheVariants as operations
use Rattle.isa.specs.declared.instruction.Test.{Test}
use Rattle.isa.specs.declared.instruction.Test.TheVariants as tests
use Rattle.isa.specs.declared.instruction.Source.{Source}
use Rattle.isa.specs.declared.instruction.Source.TheVariants as sources
use Rattle.isa.specs.declared.instruction.Extension.{Extension}
use Rattle.isa.specs.declared.instruction.Extension.TheVariants as extensions
use Rattle.isa.specs.declared.instruction.ByteOrder.{ByteOrder}
use Rattle.isa.specs.declared.instruction.ByteOrder.TheVariants as orders
use Rattle.isa.specs.declared.instruction.SwapWidth.{SwapWidth}
use Rattle.isa.specs.declared.instruction.SwapWidth.TheVariants as swaps
use Rattle.isa.specs.declared.instruction.LoadSize.{LoadSize}
use Rattle.isa.specs.declared.instruction.LoadSize.TheVariants as loads
use Rattle.isa.specs.declared.instruction.StoreSize.{StoreSize}
use Rattle.isa.specs.declared.instruction.StoreSize.TheVariants as stores
use Rattle.isa.specs.declared.code.Slot.{Slot}

-- The fields of a slot are the unsigned numbers of their bits.
abbrev pub bytes_of_fields : Fields → List ℕ
bytes_of_fields f = f.opcode ∷ (16 * f.source + f.target) ∷ to_le_bytes w16 f.offset
    ++ to_le_bytes w32 f.immediate

-- ---- the tables

abbrev pub arithmetic_class : Width → ℕ
arithmetic_class Bits32 = 4
arithmetic_class Bits64 = 7

abbrev pub jump_class : Width → ℕ
jump_class Bits32 = 6
jump_class Bits64 = 5

abbrev pub operation_code : Operation → ℕ
operation_code operations.Add = 0
operation_code operations.Subtract = 1
operation_code operations.Multiply = 2
operation_code operations.Divide = 3
operation_code operations.SignedDivide = 3
operation_code operations.Or = 4
operation_code operations.And = 5
operation_code operations.ShiftLeft = 6
operation_code operations.ShiftRight = 7
operation_code operations.Modulo = 9
operation_code operations.SignedModulo = 9
operation_code operations.Xor = 10
operation_code operations.Move = 11
operation_code operations.ArithmeticShiftRight = 12

-- The offset distinguishes the signed division and modulo from the unsigned ones.
abbrev pub operation_offset : Operation → ℕ
operation_offset operations.SignedDivide = 1
operation_offset operations.SignedModulo = 1
operation_offset other = 0

abbrev pub test_code : Test → ℕ
test_code tests.Equal = 1
test_code tests.Greater = 2
test_code tests.GreaterOrEqual = 3
test_code tests.AnyBitSet = 4
test_code tests.NotEqual = 5
test_code tests.SignedGreater = 6
test_code tests.SignedGreaterOrEqual = 7
test_code tests.Less = 10
test_code tests.LessOrEqual = 11
test_code tests.SignedLess = 12
test_code tests.SignedLessOrEqual = 13

abbrev pub swap_bits : SwapWidth → ℕ
swap_bits swaps.Bits16 = 16
swap_bits swaps.Bits32 = 32
swap_bits swaps.Bits64 = 64

-- mode and size of a load
abbrev pub load_code : LoadSize → ℕ
load_code loads.Unsigned8 = 32 * 3 + 8 * 2
load_code loads.Unsigned16 = 32 * 3 + 8 * 1
load_code loads.Unsigned32 = 32 * 3 + 8 * 0
load_code loads.Unsigned64 = 32 * 3 + 8 * 3
load_code loads.Signed8 = 32 * 4 + 8 * 2
load_code loads.Signed16 = 32 * 4 + 8 * 1
load_code loads.Signed32 = 32 * 4 + 8 * 0

abbrev pub store_code : StoreSize → ℕ
store_code stores.Bits8 = 32 * 3 + 8 * 2
store_code stores.Bits16 = 32 * 3 + 8 * 1
store_code stores.Bits32 = 32 * 3 + 8 * 0
store_code stores.Bits64 = 32 * 3 + 8 * 3

-- ---- the second operand: a bit of the opcode, a register, a number

abbrev pub source_bit : Source → ℕ
source_bit (sources.Immediate number) = 0
source_bit (sources.Register register) = 8

abbrev pub source_register : Source → ℕ
source_register (sources.Immediate number) = 0
source_register (sources.Register register) = register

abbrev pub source_number : Source → ℕ
source_number (sources.Immediate number) = cast_unsigned w32 number
source_number (sources.Register register) = 0

abbrev pub fields : ℕ → ℕ → ℕ → ℕ → ℕ → Fields
fields opcode target source offset immediate =
    record {
      opcode = opcode;
      target = target;
      source = source;
      offset = offset;
      immediate = immediate;
    }

-- ---- the first, or only, slot of an instruction

abbrev pub fields_of_extension : Extension → ℕ → ℕ → Fields
fields_of_extension (extensions.Byte width) target source =
    fields (16 * 11 + 8 + arithmetic_class width) target source 8 0
fields_of_extension (extensions.Half width) target source =
    fields (16 * 11 + 8 + arithmetic_class width) target source 16 0
fields_of_extension extensions.Word target source = fields (16 * 11 + 8 + 7) target source 32 0

abbrev pub order_opcode : ByteOrder → ℕ
order_opcode orders.Little = 16 * 13 + 4
order_opcode orders.Big = 16 * 13 + 8 + 4
order_opcode orders.Swap = 16 * 13 + 7

abbrev pub fields_of_store : StoreSize → ℕ → ℤ → Source → Fields
fields_of_store size base offset (sources.Immediate number) =
    fields (store_code size + 2) base 0 (cast_unsigned w16 offset) (cast_unsigned w32 number)
fields_of_store size base offset (sources.Register register) =
    fields (store_code size + 3) base register (cast_unsigned w16 offset) 0

abbrev pub fields_of : Instruction → Fields
fields_of (instructions.Arithmetic width operation target source) =
    fields (16 * operation_code operation + source_bit source + arithmetic_class width) target
    (source_register source) (operation_offset operation) (source_number source)
fields_of (instructions.Negate width target) = fields (16 * 8 + arithmetic_class width) target 0 0 0
fields_of (instructions.SignExtend extension target source) =
    fields_of_extension extension target source
fields_of (instructions.Reorder order width target) =
    fields (order_opcode order) target 0 0 (swap_bits width)
fields_of (instructions.Jump distance) = fields 5 0 0 (cast_unsigned w16 distance) 0
fields_of (instructions.LongJump distance) = fields 6 0 0 0 (cast_unsigned w32 distance)
fields_of (instructions.Branch width test left right distance) =
    fields (16 * test_code test + source_bit right + jump_class width) left (source_register right)
    (cast_unsigned w16 distance) (source_number right)
fields_of (instructions.Call helper) = fields (16 * 8 + 5) 0 0 0 (cast_unsigned w32 helper)
fields_of instructions.Exit = fields (16 * 9 + 5) 0 0 0 0
fields_of (instructions.Load size target base offset) =
    fields (load_code size + 1) target base (cast_unsigned w16 offset) 0
fields_of (instructions.Store size base offset source) = fields_of_store size base offset source
fields_of (instructions.LoadNumber target number) = fields 24 target 0 0 (number % 2 ^ 32)
fields_of (instructions.LoadMap target map offset) = fields 24 target 6 0 (cast_unsigned w32 map)

-- the second slot of a wide instruction, which is all zero but for its number
abbrev pub second_half : Instruction → List ℕ
second_half (instructions.LoadNumber target number) =
    bytes_of_fields (fields 0 0 0 0 (number / 2 ^ 32))
second_half (instructions.LoadMap target map offset) =
    bytes_of_fields (fields 0 0 0 0 (cast_unsigned w32 offset))
second_half other = []

-- A wide instruction spells both of its slots.
abbrev pub bytes_of : Instruction → List ℕ
bytes_of i = bytes_of_fields (fields_of i) ++ second_half i

-- The bytes spell the slots: instruction by instruction, by the table.
pub record SpellsSlots (bytes : List ℕ) (slots : List Slot) : Type 0 where
  pub instructions : List Instruction
  pub each : AllByRecursion IsInstruction instructions
  pub slots_are : slots ≡ flat_map slots_of instructions
  pub bytes_are : bytes ≡ flat_map bytes_of instructions

-- The bytes spell the code.
pub record Spells (bytes : List ℕ) (code : List Slot) : Type 0 where
  pub spelled : SpellsSlots bytes code
  pub code_is : IsCode code
