-- Each word of a table names what it spells, and no other.
use Rattle.std.proofs.Common.{◌≡◌, ℕ, zero, suc, ◌≤◌, List, [], ◌∷◌, Bool, true, false, ◌&&◌, not}
use Rattle.std.proofs.Common.{Some, None, refl, sym, ap, ◌∙◌, arith}
use Rattle.std.specs.Str.{bytes_eq}
use Rattle.std.proofs.lemmas.Bool.{false≢true, false_from_ne_true}
use Rattle.std.proofs.lemmas.Slice.Eq.{bytes_eq-Decides}
use Rattle.isa.specs.declared.hook.Hook.{Hook}
use Rattle.isa.specs.declared.hook.Hook.TheVariants as hooks
use Rattle.isa.specs.declared.instruction.Width.{Width}
use Rattle.isa.specs.declared.instruction.Width.TheVariants.{Bits32, Bits64}
use Rattle.isa.specs.declared.instruction.Operation.{Operation}
use Rattle.isa.specs.declared.instruction.Operation.TheVariants as operations
use Rattle.isa.specs.declared.instruction.Test.{Test}
use Rattle.isa.specs.declared.instruction.Test.TheVariants as tests
use Rattle.isa.specs.declared.instruction.Extension.{Extension}
use Rattle.isa.specs.declared.instruction.Extension.TheVariants as extensions
use Rattle.isa.specs.declared.instruction.ByteOrder.{ByteOrder}
use Rattle.isa.specs.declared.instruction.ByteOrder.TheVariants as orders
use Rattle.isa.specs.declared.instruction.SwapWidth.{SwapWidth}
use Rattle.isa.specs.declared.instruction.SwapWidth.TheVariants as swaps
use Rattle.isa.specs.declared.instruction.LoadSize.{LoadSize}
use Rattle.isa.specs.declared.instruction.LoadSize.TheVariants as loads
use Rattle.isa.specs.declared.instruction.StoreSize.{StoreSize}
use Rattle.isa.specs.declared.instruction.StoreSize.TheVariants as stores
use Rattle.isa.specs.Shapes.{extension_width}
use Rattle.asm.specs.Words.{Word, first_match, hook_word, hook_of, operation_word}
use Rattle.asm.specs.Words.{operation_of, test_word, test_of, load_word, load_of, store_word}
use Rattle.asm.specs.Words.{store_of, reorder_word, reorder_of, register_word, register_of}
use Rattle.asm.specs.Words.{extension_word, extension_of}
use Rattle.asm.proofs.NoNumber.{both}

pub operation_again : (x : Operation) → operation_of (operation_word x) ≡ Some x
operation_again operations.Add = refl
operation_again operations.Subtract = refl
operation_again operations.Multiply = refl
operation_again operations.Divide = refl
operation_again operations.SignedDivide = refl
operation_again operations.Or = refl
operation_again operations.And = refl
operation_again operations.ShiftLeft = refl
operation_again operations.ShiftRight = refl
operation_again operations.Modulo = refl
operation_again operations.SignedModulo = refl
operation_again operations.Xor = refl
operation_again operations.Move = refl
operation_again operations.ArithmeticShiftRight = refl

pub test_again : (x : Test) → test_of (test_word x) ≡ Some x
test_again tests.Equal = refl
test_again tests.Greater = refl
test_again tests.GreaterOrEqual = refl
test_again tests.AnyBitSet = refl
test_again tests.NotEqual = refl
test_again tests.SignedGreater = refl
test_again tests.SignedGreaterOrEqual = refl
test_again tests.Less = refl
test_again tests.LessOrEqual = refl
test_again tests.SignedLess = refl
test_again tests.SignedLessOrEqual = refl

pub hook_again : (x : Hook) → hook_of (hook_word x) ≡ Some x
hook_again hooks.Count = refl
hook_again hooks.Tag = refl
hook_again hooks.Price = refl
hook_again hooks.Veto = refl

pub load_again : (x : LoadSize) → load_of (load_word x) ≡ Some x
load_again loads.Unsigned8 = refl
load_again loads.Unsigned16 = refl
load_again loads.Unsigned32 = refl
load_again loads.Unsigned64 = refl
load_again loads.Signed8 = refl
load_again loads.Signed16 = refl
load_again loads.Signed32 = refl

pub store_again : (x : StoreSize) → store_of (store_word x) ≡ Some x
store_again stores.Bits8 = refl
store_again stores.Bits16 = refl
store_again stores.Bits32 = refl
store_again stores.Bits64 = refl

pub reorder_again : (o : ByteOrder) (w : SwapWidth) → reorder_of (reorder_word (o, w)) ≡ Some (o, w)
reorder_again orders.Little swaps.Bits16 = refl
reorder_again orders.Little swaps.Bits32 = refl
reorder_again orders.Little swaps.Bits64 = refl
reorder_again orders.Big swaps.Bits16 = refl
reorder_again orders.Big swaps.Bits32 = refl
reorder_again orders.Big swaps.Bits64 = refl
reorder_again orders.Swap swaps.Bits16 = refl
reorder_again orders.Swap swaps.Bits32 = refl
reorder_again orders.Swap swaps.Bits64 = refl

pub extension_again : (x : Extension) → extension_of (extension_width x) (extension_word x) ≡ Some x
extension_again (extensions.Byte width) = refl
extension_again (extensions.Half width) = refl
extension_again extensions.Word = refl

pub each_register : (P : ℕ → Type 0) → P 0 → P 1 → P 2 → P 3 → P 4 → P 5 → P 6 → P 7 → P 8 → P 9
    → P 10 → (r : ℕ) → r ≤ 10 → P r
each_register P p0 p1 p2 p3 p4 p5 p6 p7 p8 p9 p10 zero h = p0
each_register P p0 p1 p2 p3 p4 p5 p6 p7 p8 p9 p10 (suc zero) h = p1
each_register P p0 p1 p2 p3 p4 p5 p6 p7 p8 p9 p10 (suc (suc zero)) h = p2
each_register P p0 p1 p2 p3 p4 p5 p6 p7 p8 p9 p10 (suc (suc (suc zero))) h = p3
each_register P p0 p1 p2 p3 p4 p5 p6 p7 p8 p9 p10 (suc (suc (suc (suc zero)))) h = p4
each_register P p0 p1 p2 p3 p4 p5 p6 p7 p8 p9 p10 (suc (suc (suc (suc (suc zero))))) h = p5
each_register P p0 p1 p2 p3 p4 p5 p6 p7 p8 p9 p10 (suc (suc (suc (suc (suc (suc zero)))))) h = p6
each_register P p0 p1 p2 p3 p4 p5 p6 p7 p8 p9 p10 (suc (suc (suc (suc (suc (suc (suc zero))))))) h =
    p7
each_register P p0 p1 p2 p3 p4 p5 p6 p7 p8 p9 p10
    (suc (suc (suc (suc (suc (suc (suc (suc zero)))))))) h = p8
each_register P p0 p1 p2 p3 p4 p5 p6 p7 p8 p9 p10
    (suc (suc (suc (suc (suc (suc (suc (suc (suc zero))))))))) h = p9
each_register P p0 p1 p2 p3 p4 p5 p6 p7 p8 p9 p10
    (suc (suc (suc (suc (suc (suc (suc (suc (suc (suc zero)))))))))) h = p10
each_register P p0 p1 p2 p3 p4 p5 p6 p7 p8 p9 p10
    (suc (suc (suc (suc (suc (suc (suc (suc (suc (suc (suc n))))))))))) h = absurd (omega arith)

pub register_again : (w : Width) (r : ℕ) → r ≤ 10 → register_of (register_word (w, r)) ≡ Some (w, r)
register_again Bits64 r h = each_register
    (λ n. register_of (register_word (Bits64, n)) ≡ Some (Bits64, n)) refl refl refl refl refl refl
    refl refl refl refl refl r h
register_again Bits32 r h = each_register
    (λ n. register_of (register_word (Bits32, n)) ≡ Some (Bits32, n)) refl refl refl refl refl refl
    refl refl refl refl refl r h

-- ---- a word that a test tells from the words of a table is not in it

pub not_equal : (f : Word → Bool) (w t : Word) → f w ≡ true → f t ≡ false → bytes_eq w t ≡ false
not_equal f w t holds fails = false_from_ne_true _
    (λ e. let same : w ≡ t = (bytes_eq-Decides w t).0 e in
    false≢true (sym fails ∙ sym (ap f same) ∙ holds))

abbrev pub tells : {A : Type 0} → (Word → Bool) → List (Word × A) → Bool
tells f [] = true
tells f (x ∷ xs) = not (f x.0) && tells f xs

not_true : (b : Bool) → not b ≡ true → b ≡ false
not_true true e = absurd (cc e)
not_true false e = refl

pub not_in_table : {A : Type 0} (f : Word → Bool) (xs : List (Word × A)) (w : Word) → f w ≡ true
    → tells f xs ≡ true → first_match xs w ≡ None
not_in_table f [] w holds all = refl
not_in_table f (x ∷ xs) w holds all =
    let parts = both (not (f x.0)) (tells f xs) all in
    rw (not_equal f w x.0 holds (not_true (f x.0) parts.0)) (not_in_table f xs w holds parts.1)

pub some_same : {A : Type 0} (x y : A) → Some x ≡ Some y → x ≡ y
some_same x y e = cc e

not_false : (b : Bool) → not b ≡ false → b ≡ true
not_false true e = refl
not_false false e = absurd (cc e)

pub same_text : (a t : Word) (r : Bool) → r ≡ not (bytes_eq a t) → r ≡ false → a ≡ t
same_text a t r e f = (bytes_eq-Decides a t).0 (not_false (bytes_eq a t) (sym e ∙ f))
