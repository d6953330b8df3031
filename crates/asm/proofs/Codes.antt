-- Listings of instructions.
use Rattle.std.proofs.Common.{◌≡◌, ◌⊎◌, inl, inr, ℕ, ◌+◌, ◌≤◌, ◌<◌, Bool, true, false, List, []}
use Rattle.std.proofs.Common.{◌∷◌, ◌++◌, length, take, drop, get_or, Option, None, refl, ap, ◌∙◌}
use Rattle.std.proofs.Common.{sym, arith, append_assoc, append-nil, le-ltb, length-append}
use Rattle.std.proofs.Common.{length-drop, take-append-drop, ⊎_elim}
use Rattle.std.specs.Prelude.{Result, Ok, Err, if◌then◌else◌}
use Rattle.std.specs.List.{flat_map}
use Rattle.std.proofs.lemmas.Bool.{cond-false, false≢true}
use Rattle.std.proofs.lemmas.List.{take_more, drop_more, take_all, drop_all}
use Rattle.isa.specs.declared.hook.Hook.{Hook}
use Rattle.isa.specs.declared.instruction.Instruction.{Instruction}
use Rattle.isa.specs.declared.code.Slot.{Slot}
use Rattle.isa.specs.declared.code.Slot.TheVariants.{Start, SecondHalf}
use Rattle.isa.specs.Code.{IsCode, is_wide, slots_of}
use Rattle.asm.specs.declared.line.AssemblyLine.{AssemblyLine}
use Rattle.asm.specs.declared.line.AssemblyLine.TheVariants as lines
use Rattle.asm.specs.declared.error.AsmFault.{AsmFault}
use Rattle.asm.specs.declared.error.AsmFault.TheVariants as faults
use Rattle.asm.specs.declared.labels.Place.{Place}
use Rattle.asm.specs.Instructions.{◌>>=◌, instruction_of, with_instruction}
use Rattle.asm.specs.Assembling.{line_step, instruction_step, slot_at, with_code}
use Rattle.asm.specs.Listed.{Listed, AddsLine, Any, Front, sketch_of, code_sketch}
use Rattle.asm.proofs.Pushed.{listed_push, listed_same}

abbrev is_ok : {A : Type 0} → Result A AsmFault → Bool
is_ok (Ok x) = true
is_ok (Err fault) = false

never : {P : Type 0} (fault : AsmFault) (i : Instruction) → Err fault ≡ Ok i → P
never fault i e = absurd (false≢true (ap is_ok e))

-- A line of an instruction is taken as one.
as_instruction : (l : AssemblyLine) (f : Front) (i : Instruction) (at : ℕ) (place : Option Place)
    (rest : List (Option AssemblyLine)) → instruction_of l 0 None ≡ Ok i
    → line_step (sketch_of f None) l at place rest
    ≡ instruction_step (sketch_of f None) l (slot_at place)
as_instruction lines.Empty f i at place rest e = never faults.Syntax i e
as_instruction (lines.Hook hook) f i at place rest e = never faults.Syntax i e
as_instruction (lines.Rank rank) f i at place rest e = never faults.Syntax i e
as_instruction lines.Label f i at place rest e = never faults.Syntax i e
as_instruction (lines.Arithmetic width operation target source) f i at place rest e = refl
as_instruction (lines.Negate width target) f i at place rest e = refl
as_instruction (lines.SignExtend extension target source) f i at place rest e = refl
as_instruction (lines.Reorder order width target) f i at place rest e = refl
as_instruction (lines.Jump target) f i at place rest e = refl
as_instruction (lines.LongJump target) f i at place rest e = refl
as_instruction (lines.Branch width test left right target) f i at place rest e = refl
as_instruction (lines.Call helper) f i at place rest e = refl
as_instruction lines.Exit f i at place rest e = refl
as_instruction (lines.Load size target base offset) f i at place rest e = refl
as_instruction (lines.Store size base offset source) f i at place rest e = refl
as_instruction (lines.LoadNumber target n) f i at place rest e = refl
as_instruction (lines.LoadMap target map offset) f i at place rest e = refl
as_instruction (lines.State slot constant terms) f i at place rest e = never faults.Syntax i e
as_instruction (lines.With register content) f i at place rest e = never faults.Syntax i e
as_instruction (lines.Bytes start end) f i at place rest e = never faults.Syntax i e

instruction_steps : (l : AssemblyLine) (hook : Hook) (rank : ℕ) (code : List Slot) (i : Instruction)
    (at : ℕ) (place : Option Place) (rest : List (Option AssemblyLine))
    → ((slot : ℕ) (named : Option ℕ) → instruction_of l slot named ≡ Ok i)
    → length code + length (slots_of i) ≤ 4096
    → line_step (code_sketch hook rank code) l at place rest
    ≡ Ok (code_sketch hook rank (code ++ slots_of i))
instruction_steps l hook rank code i at place rest again room =
    as_instruction l (record {
      hook = hook;
      rank = rank;
      code = code;
      before = [];
    }) i at place rest (again 0 None)
    ∙ ap (λ (r : Result Instruction AsmFault). r >>= with_instruction code >>= with_code
    (code_sketch hook rank code)) (again (length code) (slot_at place))
    ∙ ap (λ (r : Result (List Slot) AsmFault). r >>= with_code (code_sketch hook rank code))
    (cond-false _ (Err faults.Range) (Ok (code ++ slots_of i))
    (le-ltb 4096 (length code + length (slots_of i)) room))

-- The instructions before slot `at` are listed, and so is the second half of the last one.
pub record CodeSoFar (text : List ℕ) (hook : Hook) (rank : ℕ) (slots : List Slot) (at : ℕ) : Type 0
  where
    pub ahead : List Slot
    pub instructions : List Instruction
    pub rest : drop at slots ≡ ahead ++ flat_map slots_of instructions
    pub one : (ahead ≡ []) ⊎ (ahead ≡ SecondHalf ∷ [])
    pub listed : Listed text (code_sketch hook rank (take at slots ++ ahead)) Any

pub code_begins : (text : List ℕ) (hook : Hook) (rank : ℕ) (slots : List Slot) → IsCode slots
    → Listed text (code_sketch hook rank []) Any → CodeSoFar text hook rank slots 0
code_begins text hook rank slots is h = record {
  ahead = [];
  instructions = is.whole.instructions;
  rest = is.whole.slots_are;
  one = inl refl;
  listed = h;
}

abbrev is_start : Slot → Bool
is_start (Start i) = true
is_start SecondHalf = false

abbrev started : Instruction → Slot → Instruction
started d (Start i) = i
started d SecondHalf = d

abbrev first_starts : List Slot → Bool
first_starts [] = true
first_starts (s ∷ ss) = is_start s

-- no instruction begins with a second half
all_start : (is : List Instruction) → first_starts (flat_map slots_of is) ≡ true
all_start [] = refl
all_start (i ∷ is) = refl

abbrev second_of : Instruction → List Slot
second_of i = if is_wide i then SecondHalf ∷ [] else []

second_is : (wide : Bool) → ((if wide then SecondHalf ∷ [] else []) ≡ [])
    ⊎ ((if wide then SecondHalf ∷ [] else []) ≡ SecondHalf ∷ [])
second_is true = inr refl
second_is false = inl refl

-- an instruction that begins here
start_more : (old new : List ℕ) (hook : Hook) (rank : ℕ) (slots : List Slot) (at : ℕ)
    (l : AssemblyLine) (i : Instruction) (is : List Instruction) → at < length slots
    → length slots ≤ 4096 → get_or slots at (Start i) ≡ Start i
    → drop at slots ≡ flat_map slots_of is
    → Listed old (code_sketch hook rank (take at slots)) Any → AddsLine old new l
    → ((slot : ℕ) (named : Option ℕ) → instruction_of l slot named ≡ Ok i)
    → CodeSoFar new hook rank slots (at + 1)
start_more old new hook rank slots at l i [] h most g e listed adds again =
    absurd (omega (arith, h, length-drop at slots, ap length e))
start_more old new hook rank slots at l i (j ∷ js) h most g e listed adds again =
    let here : drop at slots ≡ Start i ∷ drop (at + 1) slots =
    drop_more slots at (Start i) h ∙ ap (λ (x : Slot). x ∷ drop (at + 1) slots) g in
    let same : j ≡ i = ap (λ (xs : List Slot). started i (get_or xs 0 SecondHalf)) (sym e ∙ here) in
    let tail : drop (at + 1) slots ≡ second_of i ++ flat_map slots_of js =
    ap (λ (xs : List Slot). drop 1 xs) (sym here ∙ e)
    ∙ ap (λ (k : Instruction). second_of k ++ flat_map slots_of js) same in
    let cut : length (drop at slots) ≡ length (slots_of i) + length (flat_map slots_of js) =
    ap length e ∙ length-append (slots_of j) (flat_map slots_of js)
    ∙ ap (λ (k : Instruction). length (slots_of k) + length (flat_map slots_of js)) same in
    let whole : length (take at slots) + length (drop at slots) ≡ length slots =
    sym (length-append (take at slots) (drop at slots))
    ∙ ap length (take-append-drop at slots) in
    let t = code_sketch hook rank (take at slots ++ slots_of i) in
    let more : take at slots ++ slots_of i ≡ take (at + 1) slots ++ second_of i =
    sym (append_assoc (take at slots) (Start i ∷ []) (second_of i))
    ∙ ap (λ (xs : List Slot). xs ++ second_of i)
    (ap (λ (x : Slot). take at slots ++ x ∷ []) (sym g)
    ∙ sym (take_more slots at (Start i) h)) in
    record {
      ahead = second_of i;
      instructions = js;
      rest = tail;
      one = second_is (is_wide i);
      listed = listed_same new t (code_sketch hook rank (take (at + 1) slots ++ second_of i)) Any
          Any (ap (λ (xs : List Slot). code_sketch hook rank xs) more) (λ rest d. tt)
          (listed_push old new l (code_sketch hook rank (take at slots)) t Any Any adds listed
          (λ rest d. tt) (λ n place rest d. instruction_steps l hook rank (take at slots) i n
          place rest again (omega (arith, cut, whole, most))));
    }

-- the second half of the instruction before
pub second_step : (text : List ℕ) (hook : Hook) (rank : ℕ) (slots : List Slot) (at : ℕ)
    → at < length slots → get_or slots at SecondHalf ≡ SecondHalf
    → CodeSoFar text hook rank slots at → CodeSoFar text hook rank slots (at + 1)
second_step text hook rank slots at h g c =
    let here : drop at slots ≡ SecondHalf ∷ drop (at + 1) slots =
    drop_more slots at SecondHalf h ∙ ap (λ (x : Slot). x ∷ drop (at + 1) slots) g in
    let behind = flat_map slots_of c.instructions in
    ⊎_elim (λ e. absurd (false≢true (ap first_starts
    (sym here ∙ c.rest ∙ ap (λ (a : List Slot). a ++ behind) e) ∙ all_start c.instructions)))
    (λ e. record {
      ahead = [];
      instructions = c.instructions;
      rest = ap (λ (xs : List Slot). drop 1 xs)
          (sym here ∙ c.rest ∙ ap (λ (a : List Slot). a ++ behind) e);
      one = inl refl;
      listed = listed_same text (code_sketch hook rank (take at slots ++ c.ahead))
          (code_sketch hook rank (take (at + 1) slots ++ [])) Any Any
          (ap (λ (xs : List Slot). code_sketch hook rank xs)
          (ap (λ (a : List Slot). take at slots ++ a) e
          ∙ ap (λ (x : Slot). take at slots ++ x ∷ []) (sym g)
          ∙ sym (take_more slots at SecondHalf h)
          ∙ sym (append-nil (take (at + 1) slots)))) (λ rest d. tt) c.listed;
    }) c.one

-- the instruction that begins here
pub start_step : (old new : List ℕ) (hook : Hook) (rank : ℕ) (slots : List Slot) (at : ℕ)
    (l : AssemblyLine) (i : Instruction) → at < length slots → length slots ≤ 4096
    → get_or slots at (Start i) ≡ Start i → AddsLine old new l
    → ((slot : ℕ) (named : Option ℕ) → instruction_of l slot named ≡ Ok i)
    → CodeSoFar old hook rank slots at → CodeSoFar new hook rank slots (at + 1)
start_step old new hook rank slots at l i h most g adds again c =
    let here : drop at slots ≡ Start i ∷ drop (at + 1) slots =
    drop_more slots at (Start i) h ∙ ap (λ (x : Slot). x ∷ drop (at + 1) slots) g in
    let behind = flat_map slots_of c.instructions in
    ⊎_elim (λ e. start_more old new hook rank slots at l i c.instructions h most g
    (c.rest ∙ ap (λ (a : List Slot). a ++ behind) e)
    (listed_same old (code_sketch hook rank (take at slots ++ c.ahead))
    (code_sketch hook rank (take at slots)) Any Any
    (ap (λ (xs : List Slot). code_sketch hook rank xs)
    (ap (λ (a : List Slot). take at slots ++ a) e ∙ append-nil (take at slots))) (λ rest d. tt)
    c.listed) adds again)
    (λ e. absurd (false≢true (sym (ap first_starts
    (sym here ∙ c.rest ∙ ap (λ (a : List Slot). a ++ behind) e))))) c.one

pub code_ends : (text : List ℕ) (hook : Hook) (rank : ℕ) (slots : List Slot) (at : ℕ)
    → length slots ≤ at → CodeSoFar text hook rank slots at
    → Listed text (code_sketch hook rank slots) Any
code_ends text hook rank slots at h c =
    ⊎_elim (λ e. listed_same text (code_sketch hook rank (take at slots ++ c.ahead))
    (code_sketch hook rank slots) Any Any
    (ap (λ (xs : List Slot). code_sketch hook rank xs)
    (ap (λ (a : List Slot). take at slots ++ a) e ∙ append-nil (take at slots)
    ∙ take_all at slots h)) (λ rest d. tt) c.listed)
    (λ e. absurd (omega (
      arith,
      ap length
          (sym (drop_all at slots h) ∙ c.rest
          ∙ ap (λ (a : List Slot). a ++ flat_map slots_of c.instructions) e),
    ))) c.one

pub item_at : (items code : List Slot) (at : ℕ) (x y : Slot) → x ≡ get_or items at x → x ≡ y
    → items ≡ code → get_or code at y ≡ y
item_at items code at x y is e same =
    ap (λ (z : List Slot). get_or z at y) (sym same) ∙ ap (λ (z : Slot). get_or items at z) (sym e)
    ∙ sym is ∙ e
