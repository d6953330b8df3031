-- The bytes of slots, slot by slot.
use Rattle.std.proofs.Common.{◌≡◌, ℕ, Bool, true, false, List, [], ◌∷◌, ◌++◌, refl, ap, ◌∙◌}
use Rattle.std.specs.Prelude.{if◌then◌else◌}
use Rattle.std.specs.List.{flat_map}
use Rattle.std.proofs.lemmas.List.{append-nil}
use Rattle.std.proofs.lemmas.Grind.{flat_map-append}
use Rattle.isa.specs.declared.instruction.Instruction.{Instruction}
use Rattle.isa.specs.declared.code.Slot.{Slot}
use Rattle.isa.specs.declared.code.Slot.TheVariants.{Start, SecondHalf}
use Rattle.isa.specs.Code.{IsCode, is_wide, slots_of}
use Rattle.isa.specs.Spelling.{bytes_of, Spells}

-- An instruction's bytes all stand at its first slot.
abbrev pub bytes_at : Slot → List ℕ
bytes_at (Start i) = bytes_of i
bytes_at SecondHalf = []

second_none : (wide : Bool) → flat_map bytes_at (if wide then SecondHalf ∷ [] else []) ≡ []
second_none true = refl
second_none false = refl

bytes_at-one : (i : Instruction) → flat_map bytes_at (slots_of i) ≡ bytes_of i
bytes_at-one i = ap (λ xs. bytes_of i ++ xs) (second_none (is_wide i)) ∙ append-nil (bytes_of i)

pub bytes_at-all : (is : List Instruction)
    → flat_map bytes_at (flat_map slots_of is) ≡ flat_map bytes_of is
bytes_at-all [] = refl
bytes_at-all (i ∷ is) =
    flat_map-append bytes_at (slots_of i) (flat_map slots_of is)
    ∙ ap (λ xs. xs ++ flat_map bytes_at (flat_map slots_of is)) (bytes_at-one i)
    ∙ ap (λ xs. bytes_of i ++ xs) (bytes_at-all is)

pub spelled_so : (code : List Slot) (bytes : List ℕ) → IsCode code → bytes ≡ flat_map bytes_at code
    → Spells bytes code
spelled_so code bytes is e = record {
  spelled = record {
    instructions = is.whole.instructions;
    each = is.whole.each;
    slots_are = is.whole.slots_are;
    bytes_are = e ∙ ap (λ xs. flat_map bytes_at xs) is.whole.slots_are
        ∙ bytes_at-all is.whole.instructions;
  };
  code_is = is;
}
