-- Which refusal it is, at the front of some bytes.
use Rattle.std.proofs.Common.{◌≡◌, ℕ, pos, ◌+◌, ◌*◌, ◌<◌, ◌≤◌, ◌/◌, ◌%◌, ◌^◌, List, [], ◌∷◌, take}
use Rattle.std.proofs.Common.{refl, sym, ap, ◌∙◌, arith}
use Rattle.std.specs.Prelude.{◌⊎◌, IsTrue, slice_index}
use Rattle.std.proofs.Common.{inl, inr}
use Rattle.std.specs.Int.{w32, cast_signed, cast_unsigned}
use Rattle.std.proofs.lemmas.Int.{ints, of_z-to_z}
use Rattle.isa.specs.declared.fields.Fields.{Fields}
use Rattle.isa.specs.declared.instruction.Instruction.{Instruction}
use Rattle.isa.specs.declared.instruction.Instruction.TheVariants.{Arithmetic, Negate, SignExtend}
use Rattle.isa.specs.declared.instruction.Instruction.TheVariants.{Reorder, Jump, LongJump, Branch}
use Rattle.isa.specs.declared.instruction.Instruction.TheVariants.{Call, Exit, Load, Store}
use Rattle.isa.specs.declared.instruction.Instruction.TheVariants.{LoadNumber, LoadMap}
use Rattle.isa.specs.declared.instruction.Source.TheVariants as sources
use Rattle.isa.specs.declared.instruction.SwapWidth.TheVariants as swaps
use Rattle.isa.specs.declared.shape.Form.TheVariants as forms
use Rattle.isa.specs.declared.shape.Shape.{Shape}
use Rattle.isa.specs.declared.shape.Shape.TheVariants as shapes
use Rattle.isa.specs.Code.{is_wide}
use Rattle.isa.specs.Spelling.{fields_of, bytes_of_fields}
use Rattle.isa.specs.Shapes.{opcode_of, shape_of, IsUnsigned}
use Rattle.isa.specs.Slots.{IsHeldBy}
use Rattle.isa.specs.Refusals.{IsListed, HasRegisters, Begins}
use Rattle.isa.proofs.Ranges.{AreSmall, ranged, same_fields}
use Rattle.isa.proofs.Only.{front_opcode}

-- Each shape has an instruction.
pub listed : (shape : Shape) → IsUnsigned shape → IsListed (opcode_of shape)
listed (shapes.Arithmetic w o forms.Immediate) u =
    (Arithmetic w o 0 (sources.Immediate (pos 0)), refl)
listed (shapes.Arithmetic w o forms.Register) u = (Arithmetic w o 0 (sources.Register 0), refl)
listed (shapes.Negate w) u = (Negate w 0, refl)
listed (shapes.Reorder o) u = (Reorder o swaps.Bits16 0, refl)
listed shapes.Jump u = (Jump (pos 0), refl)
listed shapes.LongJump u = (LongJump (pos 0), refl)
listed (shapes.Branch w t forms.Immediate) u =
    (Branch w t 0 (sources.Immediate (pos 0)) (pos 0), refl)
listed (shapes.Branch w t forms.Register) u = (Branch w t 0 (sources.Register 0) (pos 0), refl)
listed shapes.Call u = (Call (pos 0), refl)
listed shapes.Exit u = (Exit, refl)
listed (shapes.Load z) u = (Load z 0 0 (pos 0), refl)
listed (shapes.Store z forms.Immediate) u = (Store z 0 (pos 0) (sources.Immediate (pos 0)), refl)
listed (shapes.Store z forms.Register) u = (Store z 0 (pos 0) (sources.Register 0), refl)
listed shapes.Wide u = (LoadNumber 0 0, refl)

-- An instruction whose first slot was read has the fields that were read.
pub begins_held : (f : Fields) (i : Instruction) (bytes : List ℕ) → AreSmall f
    → bytes_of_fields f ≡ take 8 bytes → Begins i bytes → IsHeldBy f i
begins_held f i bytes small read (is, e) =
    let r = ranged i is in
    let same = same_fields (fields_of i) f (record {
      target = omega (arith, r.target);
      source = omega (arith, r.source);
      offset = r.offset;
      immediate = r.immediate;
    }) small (e ∙ sym read) in
    record { fields_are = same; ranges = is }

-- what the first slot of a wide instruction holds
pub wide_first : (f : Fields) (i : Instruction) → IsHeldBy f i → shape_of i ≡ shapes.Wide
    → (f.offset ≡ 0) × ((f.source ≡ 0) ⊎ (f.source ≡ 6))
wide_first f (LoadNumber t n) held wide =
    (sym (ap (λ g. g.offset) held.fields_are), inl (sym (ap (λ g. g.source) held.fields_are)))
wide_first f (LoadMap t m o) held wide =
    (sym (ap (λ g. g.offset) held.fields_are), inr (sym (ap (λ g. g.source) held.fields_are)))
wide_first f (Arithmetic w o t s) held wide = absurd cc
wide_first f (Negate w t) held wide = absurd cc
wide_first f (SignExtend x t s) held wide = absurd cc
wide_first f (Reorder o w t) held wide = absurd cc
wide_first f (Jump d) held wide = absurd cc
wide_first f (LongJump d) held wide = absurd cc
wide_first f (Branch w t l r d) held wide = absurd cc
wide_first f (Call n) held wide = absurd cc
wide_first f Exit held wide = absurd cc
wide_first f (Load z t b o) held wide = absurd cc
wide_first f (Store z b o s) held wide = absurd cc

-- A first slot that is valid on its own is that of a wide instruction.
pub wide_begins : (f : Fields) (bytes : List ℕ) → AreSmall f → bytes_of_fields f ≡ take 8 bytes
    → f.opcode ≡ 24 → f.target ≤ 10 → f.offset ≡ 0 → (f.source ≡ 0) ⊎ (f.source ≡ 6)
    → (i : Instruction) × IsTrue (is_wide i) × Begins i bytes
wide_begins f bytes small read opcode target offset (inl none) =
    let made : ℕ → ℕ → ℕ → ℕ → ℕ → Fields = λ a b c d e. record {
      opcode = a;
      target = b;
      source = c;
      offset = d;
      immediate = e;
    } in
    let number : f.immediate % 2 ^ 32 ≡ f.immediate = omega (arith, small.immediate) in
    let same : made 24 f.target 0 0 (f.immediate % 2 ^ 32)
    ≡ made f.opcode f.target f.source f.offset f.immediate = cc in (
      LoadNumber f.target f.immediate,
      refl,
      ((target, omega (arith, small.immediate)), ap bytes_of_fields same ∙ read),
    )
wide_begins f bytes small read opcode target offset (inr six) =
    let made : ℕ → ℕ → ℕ → ℕ → ℕ → Fields = λ a b c d e. record {
      opcode = a;
      target = b;
      source = c;
      offset = d;
      immediate = e;
    } in
    let number = of_z-to_z w32 f.immediate small.immediate in
    let same : made 24 f.target 6 0 (cast_unsigned w32 (cast_signed w32 f.immediate))
    ≡ made f.opcode f.target f.source f.offset f.immediate = cc in (
      LoadMap f.target (cast_signed w32 f.immediate) (pos 0),
      refl,
      (
        (target, omega (arith, ints, small.immediate), omega (arith, ints)),
        ap bytes_of_fields same ∙ read,
      ),
    )

-- the bytes have the opcode of the shape that was found
pub listed_at : (f : Fields) (bytes : List ℕ) (shape : Shape) → bytes_of_fields f ≡ take 8 bytes
    → (opcode_of shape ≡ f.opcode) × IsUnsigned shape → IsListed (slice_index bytes 0)
listed_at f bytes shape read (opcode, unsigned) =
    let l = listed shape unsigned in (l.0, l.1 ∙ opcode ∙ sym (front_opcode f bytes read))

front_registers : (f : Fields) (bytes : List ℕ) → bytes_of_fields f ≡ take 8 bytes
    → slice_index bytes 1 ≡ 16 * f.source + f.target
front_registers f [] e = absurd cc
front_registers f (a ∷ []) e = absurd cc
front_registers f (a ∷ b ∷ bytes) e = cc

pub has_registers : (f : Fields) (bytes : List ℕ) → AreSmall f → bytes_of_fields f ≡ take 8 bytes
    → f.target ≤ 10 → f.source ≤ 10 → HasRegisters bytes
has_registers f bytes small read target source =
    let is = front_registers f bytes read in (omega (arith, is), omega (arith, is))

pub lacks_registers : (f : Fields) (bytes : List ℕ) → AreSmall f → bytes_of_fields f ≡ take 8 bytes
    → (10 < f.target) ⊎ ((f.target ≤ 10) × (10 < f.source))
    → (10 < slice_index bytes 1 % 16) ⊎ (10 < slice_index bytes 1 / 16)
lacks_registers f bytes small read (inl target) = let is = front_registers f bytes read in let t =
    small.target in inl (omega (arith, is, t))
lacks_registers f bytes small read (inr source) = let is = front_registers f bytes read in let t =
    small.target in let s = source.1 in inr (omega (arith, is, t, s))
