-- Words, and the fixed tables of them.
use Rattle.std.specs.Prelude.{ℕ, Bool, false, not, ◌&&◌, List, [], ◌∷◌, Option, Some, None}
use Rattle.std.specs.Prelude.{if◌then◌else◌, codes, ◌==◌, ◌+◌}
use Rattle.std.specs.List.{list_all}
use Rattle.std.specs.Str.{bytes_eq}
use Rattle.isa.specs.Hooks.{hook_name}
use Rattle.isa.specs.declared.hook.Hook.{Hook}
use Rattle.isa.specs.declared.hook.Hook.TheVariants as hooks
use Rattle.isa.specs.declared.instruction.Width.{Width}
use Rattle.isa.specs.declared.instruction.Width.TheVariants.{Bits32, Bits64}
use Rattle.isa.specs.declared.instruction.Operation.{Operation}
use Rattle.isa.specs.declared.instruction.Operation.TheVariants as operations
use Rattle.isa.specs.declared.instruction.Test.{Test}
use Rattle.isa.specs.declared.instruction.Test.TheVariants as tests
use Rattle.isa.specs.declared.instruction.Extension.{Extension}
use Rattle.isa.specs.declared.instruction.Extension.TheVariants as extensions
use Rattle.isa.specs.declared.instruction.ByteOrder.{ByteOrder}
use Rattle.isa.specs.declared.instruction.ByteOrder.TheVariants as orders
use Rattle.isa.specs.declared.instruction.SwapWidth.{SwapWidth}
use Rattle.isa.specs.declared.instruction.SwapWidth.TheVariants as swaps
use Rattle.isa.specs.declared.instruction.LoadSize.{LoadSize}
use Rattle.isa.specs.declared.instruction.LoadSize.TheVariants as loads
use Rattle.isa.specs.declared.instruction.StoreSize.{StoreSize}
use Rattle.isa.specs.declared.instruction.StoreSize.TheVariants as stores

abbrev pub Word : Type 0
Word = List ℕ

-- ---- one word: neither empty nor cut by a space (32) or a line feed (10)

abbrev pub is_inner : ℕ → Bool
is_inner c = not (c == 32) && not (c == 10)

abbrev pub is_word : Word → Bool
is_word [] = false
is_word (c ∷ cs) = is_inner c && list_all is_inner cs

-- The word is the first of these.
abbrev pub first_match : {A : Type 0} → List (List ℕ × A) → List ℕ → Option A
first_match [] word = None
first_match (x ∷ xs) word = if bytes_eq word x.0 then Some x.1 else first_match xs word

-- what an assignment does; `=` is a move
abbrev pub operation_word : Operation → List ℕ
operation_word operations.Add = codes "+="
operation_word operations.Subtract = codes "-="
operation_word operations.Multiply = codes "*="
operation_word operations.Divide = codes "/="
operation_word operations.SignedDivide = codes "s/="
operation_word operations.Or = codes "|="
operation_word operations.And = codes "&="
operation_word operations.ShiftLeft = codes "<<="
operation_word operations.ShiftRight = codes ">>="
operation_word operations.Modulo = codes "%="
operation_word operations.SignedModulo = codes "s%="
operation_word operations.Xor = codes "^="
operation_word operations.Move = codes "="
operation_word operations.ArithmeticShiftRight = codes "s>>="

abbrev pub operation_of : List ℕ → Option Operation
operation_of =
    first_match ((codes "+=", operations.Add) ∷ (codes "-=", operations.Subtract)
    ∷ (codes "*=", operations.Multiply) ∷ (codes "/=", operations.Divide)
    ∷ (codes "s/=", operations.SignedDivide) ∷ (codes "|=", operations.Or)
    ∷ (codes "&=", operations.And) ∷ (codes "<<=", operations.ShiftLeft)
    ∷ (codes ">>=", operations.ShiftRight) ∷ (codes "%=", operations.Modulo)
    ∷ (codes "s%=", operations.SignedModulo) ∷ (codes "^=", operations.Xor)
    ∷ (codes "=", operations.Move) ∷ (codes "s>>=", operations.ArithmeticShiftRight) ∷ [])

-- what a conditional jump tests
abbrev pub test_word : Test → List ℕ
test_word tests.Equal = codes "=="
test_word tests.Greater = codes ">"
test_word tests.GreaterOrEqual = codes ">="
test_word tests.AnyBitSet = codes "&"
test_word tests.NotEqual = codes "!="
test_word tests.SignedGreater = codes "s>"
test_word tests.SignedGreaterOrEqual = codes "s>="
test_word tests.Less = codes "<"
test_word tests.LessOrEqual = codes "<="
test_word tests.SignedLess = codes "s<"
test_word tests.SignedLessOrEqual = codes "s<="

abbrev pub test_of : List ℕ → Option Test
test_of =
    first_match ((codes "==", tests.Equal) ∷ (codes ">", tests.Greater)
    ∷ (codes ">=", tests.GreaterOrEqual) ∷ (codes "&", tests.AnyBitSet)
    ∷ (codes "!=", tests.NotEqual) ∷ (codes "s>", tests.SignedGreater)
    ∷ (codes "s>=", tests.SignedGreaterOrEqual) ∷ (codes "<", tests.Less)
    ∷ (codes "<=", tests.LessOrEqual) ∷ (codes "s<", tests.SignedLess)
    ∷ (codes "s<=", tests.SignedLessOrEqual) ∷ [])

-- the names of the hooks
abbrev pub hook_word : Hook → List ℕ
hook_word hook = hook_name hook

abbrev pub hook_of : List ℕ → Option Hook
hook_of =
    first_match ((hook_name hooks.Count, hooks.Count) ∷ (hook_name hooks.Tag, hooks.Tag)
    ∷ (hook_name hooks.Price, hooks.Price) ∷ (hook_name hooks.Veto, hooks.Veto) ∷ [])

-- what a load reads
abbrev pub load_word : LoadSize → List ℕ
load_word loads.Unsigned8 = codes "*u8"
load_word loads.Unsigned16 = codes "*u16"
load_word loads.Unsigned32 = codes "*u32"
load_word loads.Unsigned64 = codes "*u64"
load_word loads.Signed8 = codes "*s8"
load_word loads.Signed16 = codes "*s16"
load_word loads.Signed32 = codes "*s32"

abbrev pub load_of : List ℕ → Option LoadSize
load_of =
    first_match ((codes "*u8", loads.Unsigned8) ∷ (codes "*u16", loads.Unsigned16)
    ∷ (codes "*u32", loads.Unsigned32) ∷ (codes "*u64", loads.Unsigned64)
    ∷ (codes "*s8", loads.Signed8) ∷ (codes "*s16", loads.Signed16)
    ∷ (codes "*s32", loads.Signed32) ∷ [])

-- what a store writes
abbrev pub store_word : StoreSize → List ℕ
store_word stores.Bits8 = codes "*u8"
store_word stores.Bits16 = codes "*u16"
store_word stores.Bits32 = codes "*u32"
store_word stores.Bits64 = codes "*u64"

abbrev pub store_of : List ℕ → Option StoreSize
store_of =
    first_match ((codes "*u8", stores.Bits8) ∷ (codes "*u16", stores.Bits16)
    ∷ (codes "*u32", stores.Bits32) ∷ (codes "*u64", stores.Bits64) ∷ [])

-- what reorders bytes
abbrev pub reorder_word : ByteOrder × SwapWidth → List ℕ
reorder_word (orders.Little, swaps.Bits16) = codes "le16"
reorder_word (orders.Little, swaps.Bits32) = codes "le32"
reorder_word (orders.Little, swaps.Bits64) = codes "le64"
reorder_word (orders.Big, swaps.Bits16) = codes "be16"
reorder_word (orders.Big, swaps.Bits32) = codes "be32"
reorder_word (orders.Big, swaps.Bits64) = codes "be64"
reorder_word (orders.Swap, swaps.Bits16) = codes "swap16"
reorder_word (orders.Swap, swaps.Bits32) = codes "swap32"
reorder_word (orders.Swap, swaps.Bits64) = codes "swap64"

abbrev pub reorder_of : List ℕ → Option (ByteOrder × SwapWidth)
reorder_of =
    first_match ((codes "le16", (orders.Little, swaps.Bits16))
    ∷ (codes "le32", (orders.Little, swaps.Bits32))
    ∷ (codes "le64", (orders.Little, swaps.Bits64)) ∷ (codes "be16", (orders.Big, swaps.Bits16))
    ∷ (codes "be32", (orders.Big, swaps.Bits32)) ∷ (codes "be64", (orders.Big, swaps.Bits64))
    ∷ (codes "swap16", (orders.Swap, swaps.Bits16))
    ∷ (codes "swap32", (orders.Swap, swaps.Bits32))
    ∷ (codes "swap64", (orders.Swap, swaps.Bits64)) ∷ [])

-- `r` names all of a register's bits, `w` the low 32.
abbrev pub register_letter : Width → ℕ
register_letter Bits64 = 114
register_letter Bits32 = 119

abbrev pub register_word : Width × ℕ → List ℕ
register_word (width, register) = register_letter width
    ∷ (if register == 10 then codes "10" else (48 + register) ∷ [])

abbrev pub register_table : List (List ℕ × (Width × ℕ))
register_table = (codes "r0", (Bits64, 0)) ∷ (codes "r1", (Bits64, 1)) ∷ (codes "r2", (Bits64, 2))
    ∷ (codes "r3", (Bits64, 3)) ∷ (codes "r4", (Bits64, 4)) ∷ (codes "r5", (Bits64, 5))
    ∷ (codes "r6", (Bits64, 6)) ∷ (codes "r7", (Bits64, 7)) ∷ (codes "r8", (Bits64, 8))
    ∷ (codes "r9", (Bits64, 9)) ∷ (codes "r10", (Bits64, 10)) ∷ (codes "w0", (Bits32, 0))
    ∷ (codes "w1", (Bits32, 1)) ∷ (codes "w2", (Bits32, 2)) ∷ (codes "w3", (Bits32, 3))
    ∷ (codes "w4", (Bits32, 4)) ∷ (codes "w5", (Bits32, 5)) ∷ (codes "w6", (Bits32, 6))
    ∷ (codes "w7", (Bits32, 7)) ∷ (codes "w8", (Bits32, 8)) ∷ (codes "w9", (Bits32, 9))
    ∷ (codes "w10", (Bits32, 10)) ∷ []

abbrev pub register_of : List ℕ → Option (Width × ℕ)
register_of = first_match register_table

-- a sign-extending move
abbrev pub extension_word : Extension → List ℕ
extension_word (extensions.Byte width) = codes "s8"
extension_word (extensions.Half width) = codes "s16"
extension_word extensions.Word = codes "s32"

abbrev pub if_wide : {A : Type 0} → Width → A → Option A
if_wide Bits64 x = Some x
if_wide Bits32 x = None

abbrev pub extension_of : Width → List ℕ → Option Extension
extension_of width word = if bytes_eq word (codes "s8") then Some (extensions.Byte width)
    else (if bytes_eq word (codes "s16") then Some (extensions.Half width)
    else (if bytes_eq word (codes "s32") then if_wide width extensions.Word else None))
