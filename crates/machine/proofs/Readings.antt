-- An instruction that gives a content doesn't read an empty one.
use Rattle.std.proofs.Common.{◌≡◌, ℕ, List, [], ◌∷◌, map, refl, Bool, true, false, not, Some}
use Rattle.std.proofs.lemmas.Bool.{eq-eqb}
use Rattle.isa.specs.declared.instruction.Width.{Width}
use Rattle.isa.specs.declared.instruction.Width.TheVariants.{Bits32, Bits64}
use Rattle.isa.specs.declared.instruction.Operation.{Operation}
use Rattle.isa.specs.declared.instruction.Operation.TheVariants as operations
use Rattle.isa.specs.declared.instruction.Test.{Test}
use Rattle.machine.specs.declared.state.Content.{Content}
use Rattle.machine.specs.declared.state.Content.TheVariants.{Nothing, Number, Address}
use Rattle.isa.specs.declared.map.Map.TheVariants.{Counters, Cells}
use Rattle.machine.specs.declared.state.Pointer.{Pointer}
use Rattle.machine.specs.declared.state.Pointer.TheVariants as pointers
use Rattle.machine.specs.declared.state.StackByte.TheVariants as stack_bytes
use Rattle.machine.specs.Memory.{pieces}
use Rattle.machine.specs.Steps.{combined_content, copied_content, result_of, on_number, test_result}
use Rattle.machine.specs.Faults.{is_nothing, is_address, has, operation_reads, is_nothing_byte}
use Rattle.machine.specs.Faults.{is_byte, is_same_pointer, is_whole_pointer}

combined_reads : (w : Width) (op : Operation) (a b v : Content) → combined_content w op a b ≡ Some v
    → has is_nothing (a ∷ b ∷ []) ≡ false
combined_reads w op (Number a) (Number b) v e = refl
combined_reads w op (Address p) (Number b) v e = refl
combined_reads w op (Number a) Nothing v e = cc
combined_reads w op (Number a) (Address q) v e = cc
combined_reads Bits32 op (Address p) Nothing v e = cc
combined_reads Bits64 op (Address p) Nothing v e = cc
combined_reads Bits32 op (Address p) (Address q) v e = cc
combined_reads Bits64 op (Address p) (Address q) v e = cc
combined_reads w op Nothing b v e = cc

copied_reads : (w : Width) (b v : Content) → copied_content w b ≡ Some v
    → has is_nothing (b ∷ []) ≡ false
copied_reads w (Number b) v e = refl
copied_reads w (Address p) v e = refl
copied_reads Bits32 Nothing v e = cc
copied_reads Bits64 Nothing v e = cc

pub result_reads : (w : Width) (op : Operation) (a b v : Content) → result_of w op a b ≡ Some v
    → has is_nothing (operation_reads op a b) ≡ false
result_reads w operations.Move a b v e = copied_reads w b v e
result_reads w operations.Add a b v e = combined_reads w operations.Add a b v e
result_reads w operations.Subtract a b v e = combined_reads w operations.Subtract a b v e
result_reads w operations.Multiply a b v e = combined_reads w operations.Multiply a b v e
result_reads w operations.Divide a b v e = combined_reads w operations.Divide a b v e
result_reads w operations.SignedDivide a b v e = combined_reads w operations.SignedDivide a b v e
result_reads w operations.Or a b v e = combined_reads w operations.Or a b v e
result_reads w operations.And a b v e = combined_reads w operations.And a b v e
result_reads w operations.ShiftLeft a b v e = combined_reads w operations.ShiftLeft a b v e
result_reads w operations.ShiftRight a b v e = combined_reads w operations.ShiftRight a b v e
result_reads w operations.Modulo a b v e = combined_reads w operations.Modulo a b v e
result_reads w operations.SignedModulo a b v e = combined_reads w operations.SignedModulo a b v e
result_reads w operations.Xor a b v e = combined_reads w operations.Xor a b v e
result_reads w operations.ArithmeticShiftRight a b v e =
    combined_reads w operations.ArithmeticShiftRight a b v e

-- an operation on one number reads a number
pub number_reads : (f : ℕ → ℕ) (a v : Content) → on_number f a ≡ Some v
    → (has is_nothing (a ∷ []) ≡ false) × (has is_address (a ∷ []) ≡ false)
number_reads f (Number n) v e = (refl, refl)
number_reads f Nothing v e = cc
number_reads f (Address p) v e = cc

pub tested_reads : (w : Width) (test : Test) (a b : Content) (v : Bool)
    → test_result w test a b ≡ Some v
    → (has is_nothing (a ∷ b ∷ []) ≡ false) × (has is_address (a ∷ b ∷ []) ≡ false)
tested_reads w test (Number a) (Number b) v e = (refl, refl)
tested_reads w test (Number a) Nothing v e = cc
tested_reads w test (Number a) (Address q) v e = cc
tested_reads w test (Address p) b v e = cc
tested_reads w test Nothing b v e = cc

pub no_nothing_of_bytes : (bytes : List ℕ)
    → has is_nothing_byte (map stack_bytes.Byte bytes) ≡ false
no_nothing_of_bytes [] = refl
no_nothing_of_bytes (b ∷ bytes) = no_nothing_of_bytes bytes

pub bytes_of_bytes : (bytes : List ℕ)
    → has (λ b. not (is_byte b)) (map stack_bytes.Byte bytes) ≡ false
bytes_of_bytes [] = refl
bytes_of_bytes (b ∷ bytes) = bytes_of_bytes bytes

pub is_same_pointer-refl : (p : Pointer) → is_same_pointer p p ≡ true
is_same_pointer-refl (pointers.Context a) = eq-eqb a a refl
is_same_pointer-refl (pointers.Stack a) = eq-eqb a a refl
is_same_pointer-refl (pointers.Map Counters a) = eq-eqb a a refl
is_same_pointer-refl (pointers.Map Cells a) = eq-eqb a a refl

pub whole_pieces : (p : Pointer) → is_whole_pointer (pieces p) ≡ true
whole_pieces p = simp (is_same_pointer-refl p)
