-- An endless loop, and the code that counts two turns of it, slot by slot.
use Rattle.std.specs.Prelude.{◌≡◌, pos, negsuc, List, [], ◌∷◌}
use Rattle.isa.specs.declared.instruction.Instruction.TheVariants.{Branch, Exit, Jump}
use Rattle.isa.specs.declared.instruction.Operation.TheVariants.{Add, Move}
use Rattle.isa.specs.declared.instruction.Source.TheVariants.{Immediate}
use Rattle.isa.specs.declared.instruction.Test.TheVariants.{NotEqual}
use Rattle.isa.specs.declared.instruction.Width.TheVariants.{Bits64}
use Rattle.isa.specs.declared.code.Slot.{Slot}
use Rattle.isa.specs.declared.code.Slot.TheVariants.{Start}
use Rattle.annotations.specs.CountedCode.{counted_code, with_number}

-- r0 = 0; head: r0 += 1; goto head
abbrev pub endless : List Slot
endless = Start (with_number Move 0 (pos 0)) ∷ Start (with_number Add 0 (pos 1))
    ∷ Start (Jump (negsuc 1)) ∷ []

-- r6 = 3; r0 = 0; head: r0 += 1; goto turn; turn: r6 += -1; if r6 != 0 goto head; r0 = 7; exit
abbrev pub with_two_turns : List Slot
with_two_turns = Start (with_number Move 6 (pos 3)) ∷ Start (with_number Move 0 (pos 0))
    ∷ Start (with_number Add 0 (pos 1)) ∷ Start (Jump (pos 0))
    ∷ Start (with_number Add 6 (negsuc 0))
    ∷ Start (Branch Bits64 NotEqual 6 (Immediate (pos 0)) (negsuc 3))
    ∷ Start (with_number Move 0 (pos 7)) ∷ Start Exit ∷ []

-- counted with r6 and two turns, with the answer 7 after that
abbrev pub IsCountedSo : Type 0
IsCountedSo = counted_code 7 6 2 (1 ∷ []) endless ≡ with_two_turns
