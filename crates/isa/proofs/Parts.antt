-- Code grown by an instruction.
use Rattle.std.proofs.Common.{◌≡◌, ◌≤◌, ℕ, ◌+◌, true, false, List, [], ◌∷◌, ◌++◌, length, sym, ap}
use Rattle.std.proofs.Common.{arith, length-append}
use Rattle.std.specs.List.{flat_map}
use Rattle.std.proofs.lemmas.List.{append-nil}
use Rattle.std.proofs.lemmas.Grind.{flat_map-append}
use Rattle.isa.specs.declared.instruction.Instruction.{Instruction}
use Rattle.isa.specs.declared.code.Slot.{Slot}
use Rattle.isa.specs.Code.{AreWhole, IsPart, IsInstruction, is_wide, slots_of}
use Rattle.isa.proofs.Fronts.{All-append}

pub taken_wide : (i : Instruction) → is_wide i ≡ true → length (slots_of i) ≡ 2
taken_wide i wide = rw wide

pub taken_short : (i : Instruction) → is_wide i ≡ false → length (slots_of i) ≡ 1
taken_short i short = rw short

whole_pushed : (slots : List Slot) (i : Instruction) → AreWhole slots → IsInstruction i
    → AreWhole (slots ++ slots_of i)
whole_pushed slots i whole is = record {
  instructions = whole.instructions ++ i ∷ [];
  each = All-append IsInstruction whole.instructions i whole.each is;
  slots_are = rw (whole.slots_are, flat_map-append slots_of whole.instructions (i ∷ []))
      (ap (λ xs. flat_map slots_of whole.instructions ++ xs) (sym (append-nil (slots_of i))));
}

pub part_pushed : (slots slots' : List Slot) (i : Instruction) (taken : ℕ) → IsPart slots
    → IsInstruction i → length (slots_of i) ≡ taken → length slots + taken ≤ 4096
    → slots' ≡ slots ++ slots_of i → IsPart slots'
part_pushed slots slots' i taken part is takes fits grown = rw grown (record {
  most = omega (arith, length-append slots (slots_of i), takes, fits);
  whole = whole_pushed slots i part.whole is;
})
