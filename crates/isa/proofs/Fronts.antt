-- An instruction at the front of some bytes.
use Rattle.std.proofs.Common.{◌≡◌, ℕ, ◌+◌, ◌-◌, ◌*◌, ◌/◌, ◌%◌, ◌≤◌, List, [], ◌∷◌, ◌++◌, length}
use Rattle.std.proofs.Common.{take, drop, refl, sym, ap, subst, ◌∙◌, arith, append_assoc}
use Rattle.std.proofs.Common.{length-append}
use Rattle.std.specs.Prelude.{IsTrue}
use Rattle.std.specs.List.{flat_map, AllByRecursion}
use Rattle.std.proofs.lemmas.List.{append-nil, take-append-drop}
use Rattle.std.proofs.lemmas.Grind.{flat_map-append}
use Rattle.std.proofs.Math.Seq.{take-append_seam, drop-append_seam}
use Rattle.isa.specs.declared.fields.Fields.{Fields}
use Rattle.isa.specs.declared.instruction.Instruction.{Instruction}
use Rattle.isa.specs.declared.instruction.Instruction.TheVariants.{Arithmetic, Negate, SignExtend}
use Rattle.isa.specs.declared.instruction.Instruction.TheVariants.{Reorder, Jump, LongJump, Branch}
use Rattle.isa.specs.declared.instruction.Instruction.TheVariants.{Call, Exit, Load, Store}
use Rattle.isa.specs.declared.instruction.Instruction.TheVariants.{LoadNumber, LoadMap}
use Rattle.isa.specs.Code.{is_short, slots_of, IsCode}
use Rattle.isa.specs.declared.code.Slot.{Slot}
use Rattle.isa.specs.Spelling.{second_half, fields_of, bytes_of, bytes_of_fields, IsInstruction}
use Rattle.isa.specs.Spelling.{SpellsSlots, Spells}
use Rattle.isa.specs.Slots.{IsHeldBy}

short_second : (i : Instruction) → IsTrue (is_short i) → second_half i ≡ []
short_second (Arithmetic w o t s) h = refl
short_second (Negate w t) h = refl
short_second (SignExtend e t s) h = refl
short_second (Reorder o w t) h = refl
short_second (Jump d) h = refl
short_second (LongJump d) h = refl
short_second (Branch w t l r d) h = refl
short_second (Call n) h = refl
short_second Exit h = refl
short_second (Load z t b o) h = refl
short_second (Store z b o s) h = refl
short_second (LoadNumber t n) h = absurd cc
short_second (LoadMap t m o) h = absurd cc

pub short_spells : (fields : Fields) (i : Instruction) (bytes : List ℕ) → IsHeldBy fields i
    → IsTrue (is_short i) → bytes_of_fields fields ≡ take 8 bytes
    → bytes_of i ≡ take (length (bytes_of i)) bytes
short_spells fields i bytes held short e =
    let is : bytes_of i ≡ bytes_of_fields fields =
    ap (λ xs. bytes_of_fields (fields_of i) ++ xs) (short_second i short)
    ∙ append-nil (bytes_of_fields (fields_of i)) ∙ ap bytes_of_fields held.fields_are in
    is ∙ e ∙ ap (λ xs. take (length xs) bytes) (sym is)

pub length-bytes_of : (i : Instruction) → length (bytes_of i) ≡ 8 * length (slots_of i)
length-bytes_of (Arithmetic w o t s) = refl
length-bytes_of (Negate w t) = refl
length-bytes_of (SignExtend e t s) = refl
length-bytes_of (Reorder o w t) = refl
length-bytes_of (Jump d) = refl
length-bytes_of (LongJump d) = refl
length-bytes_of (Branch w t l r d) = refl
length-bytes_of (Call n) = refl
length-bytes_of Exit = refl
length-bytes_of (Load z t b o) = refl
length-bytes_of (Store z b o s) = refl
length-bytes_of (LoadNumber t n) = refl
length-bytes_of (LoadMap t m o) = refl

pub All-append : {X : Type 0} (P : X → Type 0) (xs : List X) (y : X) → AllByRecursion P xs → P y
    → AllByRecursion P (xs ++ y ∷ [])
All-append P [] y h p = (p, tt)
All-append P (x ∷ xs) y (h, hs) p = (h, All-append P xs y hs p)

spells_more : (front : List ℕ) (slots : List Slot) (i : Instruction) → SpellsSlots front slots
    → IsInstruction i → SpellsSlots (front ++ bytes_of i) (slots ++ slots_of i)
spells_more front slots i h is = record {
  instructions = h.instructions ++ i ∷ [];
  each = All-append IsInstruction h.instructions i h.each is;
  slots_are = rw (h.slots_are, flat_map-append slots_of h.instructions (i ∷ []))
      (ap (λ xs. flat_map slots_of h.instructions ++ xs) (sym (append-nil (slots_of i))));
  bytes_are = rw (h.bytes_are, flat_map-append bytes_of h.instructions (i ∷ []))
      (ap (λ xs. flat_map bytes_of h.instructions ++ xs) (sym (append-nil (bytes_of i))));
}

-- the bytes up to some place spell the slots, and the rest is left
pub record Reads (bytes rest : List ℕ) (slots : List Slot) : Type 0 where
  pub front : List ℕ
  pub parts : bytes ≡ front ++ rest
  pub spells : SpellsSlots front slots
  pub long : length front ≡ 8 * length slots

pub reads_more : (bytes rest : List ℕ) (slots slots' : List Slot) (i : Instruction) (m : ℕ)
    → Reads bytes rest slots → IsInstruction i → bytes_of i ≡ take (length (bytes_of i)) rest
    → slots' ≡ slots ++ slots_of i → m ≡ 8 * (length slots' - length slots)
    → Reads bytes (drop m rest) slots'
reads_more bytes rest slots slots' i m h is found grown step =
    let n = length-bytes_of i in
    let l : length slots' ≡ length slots + length (slots_of i) =
    rw grown (length-append slots (slots_of i)) in
    let m_is : m ≡ length (bytes_of i) = omega (arith, step, l, n) in record {
      front = h.front ++ bytes_of i;
      parts = rw m_is (h.parts ∙ ap (λ xs. h.front ++ xs)
          (sym (take-append-drop (length (bytes_of i)) rest)
          ∙ ap (λ xs. xs ++ drop (length (bytes_of i)) rest) (sym found))
          ∙ sym (append_assoc h.front (bytes_of i) (drop (length (bytes_of i)) rest)));
      spells = rw grown (spells_more h.front slots i h.spells is);
      long = omega (arith, length-append h.front (bytes_of i), h.long, l, n);
    }

length-spelled : (is : List Instruction)
    → length (flat_map bytes_of is) ≡ 8 * length (flat_map slots_of is)
length-spelled [] = refl
length-spelled (i ∷ is) =
    let here = length-bytes_of i in
    let rest = length-spelled is in
    rw (
      length-append (bytes_of i) (flat_map bytes_of is),
      length-append (slots_of i) (flat_map slots_of is),
    ) (omega arith)

pub code_of : (bytes : List ℕ) (slots : List Slot) → SpellsSlots bytes slots → 1 ≤ length bytes
    → length bytes / 8 ≤ 4096 → length bytes % 8 ≡ 0 → IsCode slots
code_of bytes slots h some most whole =
    let l : length bytes ≡ 8 * length slots =
    rw (h.bytes_are, h.slots_are) (length-spelled h.instructions) in record {
      some = omega arith;
      most = omega arith;
      whole = record { instructions = h.instructions; each = h.each; slots_are = h.slots_are };
    }

-- Whatever instructions the bytes spell, those after the slots that were read are spelled by what
-- is left.
abbrev pub Leaves : List ℕ → List ℕ → List Slot → Type 0
Leaves bytes rest slots = (is : List Instruction) → AllByRecursion IsInstruction is
    → bytes ≡ flat_map bytes_of is
    → (ks : List Instruction) × AllByRecursion IsInstruction ks × (rest ≡ flat_map bytes_of ks)
    × (flat_map slots_of is ≡ slots ++ flat_map slots_of ks)

pub leaves_all : (bytes : List ℕ) → Leaves bytes bytes []
leaves_all bytes is each e = (is, each, e, refl)

-- if bytes are left, they begin with an instruction
pub leaves_one : (bytes rest : List ℕ) (slots : List Slot) → Leaves bytes rest slots
    → 1 ≤ length rest → (is : List Instruction) → AllByRecursion IsInstruction is
    → bytes ≡ flat_map bytes_of is → (k : Instruction) × IsInstruction k
    × (bytes_of k ≡ take (length (bytes_of k)) rest)
    × ((ks : List Instruction) × AllByRecursion IsInstruction ks
    × (drop (length (bytes_of k)) rest ≡ flat_map bytes_of ks)
    × (flat_map slots_of is ≡ (slots ++ slots_of k) ++ flat_map slots_of ks))
leaves_one bytes rest slots leaves some is each e = go (leaves is each e)
  where
    go : (ks : List Instruction) × AllByRecursion IsInstruction ks × (rest ≡ flat_map bytes_of ks)
        × (flat_map slots_of is ≡ slots ++ flat_map slots_of ks)
        → (k : Instruction) × IsInstruction k × (bytes_of k ≡ take (length (bytes_of k)) rest)
        × ((ks : List Instruction) × AllByRecursion IsInstruction ks
        × (drop (length (bytes_of k)) rest ≡ flat_map bytes_of ks)
        × (flat_map slots_of is ≡ (slots ++ slots_of k) ++ flat_map slots_of ks))
    go ([], all, spelled, slots_are) = absurd (omega (arith, ap length spelled, some))
    go (k ∷ ks, (k_is, all), spelled, slots_are) = (
      k,
      k_is,
      rw spelled (sym (take-append_seam (bytes_of k) (flat_map bytes_of ks))),
      (
        ks,
        all,
        rw spelled (drop-append_seam (bytes_of k) (flat_map bytes_of ks)),
        slots_are ∙ sym (append_assoc slots (slots_of k) (flat_map slots_of ks)),
      ),
    )

pub leaves_more : (bytes rest : List ℕ) (slots slots' : List Slot) (i : Instruction) (m : ℕ)
    → Leaves bytes rest slots → 1 ≤ length rest
    → ((k : Instruction) → IsInstruction k → bytes_of k ≡ take (length (bytes_of k)) rest
    → i ≡ k) → slots' ≡ slots ++ slots_of i → m ≡ 8 * (length slots' - length slots)
    → Leaves bytes (drop m rest) slots'
leaves_more bytes rest slots slots' i m leaves some only grown step is each e =
    let (k, k_is, front, more) = leaves_one bytes rest slots leaves some is each e in
    let same = only k k_is front in
    let l : length slots' ≡ length slots + length (slots_of i) =
    rw grown (length-append slots (slots_of i)) in
    let m_is : m ≡ length (bytes_of i) = omega (arith, step, l, length-bytes_of i) in
    let P : Instruction → Type 0 = λ j. (ks : List Instruction) × AllByRecursion IsInstruction ks
    × (drop (length (bytes_of j)) rest ≡ flat_map bytes_of ks)
    × (flat_map slots_of is ≡ (slots ++ slots_of j) ++ flat_map slots_of ks) in
    rw (m_is, grown) (subst P (sym same) more)

-- If nothing is left, the slots are those of the instructions.
pub leaves_none : (bytes rest : List ℕ) (slots : List Slot) → Leaves bytes rest slots
    → length rest ≡ 0 → (is : List Instruction) → AllByRecursion IsInstruction is
    → bytes ≡ flat_map bytes_of is → slots ≡ flat_map slots_of is
leaves_none bytes rest slots leaves none is each e = go (leaves is each e)
  where
    go : (ks : List Instruction) × AllByRecursion IsInstruction ks × (rest ≡ flat_map bytes_of ks)
        × (flat_map slots_of is ≡ slots ++ flat_map slots_of ks) → slots ≡ flat_map slots_of is
    go ([], all, spelled, slots_are) = sym (slots_are ∙ append-nil slots)
    go (k ∷ ks, all, spelled, slots_are) = absurd (omega (arith, ap length spelled, none))

pub spells_long : (bytes : List ℕ) (code : List Slot) → Spells bytes code
    → length bytes ≡ 8 * length code
spells_long bytes code h = rw (h.spelled.bytes_are, h.spelled.slots_are)
    (length-spelled h.spelled.instructions)

-- `count` slots were read from the front
pub record HasRead (bytes rest : List ℕ) (count : ℕ) : Type 0 where
  pub slots : List Slot
  pub counted : length slots ≡ count
  pub reads : Reads bytes rest slots
  pub leaves : Leaves bytes rest slots

pub has_read_more : (bytes rest : List ℕ) (count : ℕ) (i : Instruction) (m taken : ℕ)
    → HasRead bytes rest count → 1 ≤ length rest → IsInstruction i
    → bytes_of i ≡ take (length (bytes_of i)) rest
    → ((k : Instruction) → IsInstruction k → bytes_of k ≡ take (length (bytes_of k)) rest
    → i ≡ k) → taken ≡ length (slots_of i) → m ≡ 8 * taken
    → HasRead bytes (drop m rest) (count + taken)
has_read_more bytes rest count i m taken h some is found only slots step =
    let long = length-append h.slots (slots_of i) in
    let more : m ≡ 8 * (length (h.slots ++ slots_of i) - length h.slots) =
    omega (arith, step, slots, long) in record {
      slots = h.slots ++ slots_of i;
      counted = omega (arith, long, h.counted, slots);
      reads = reads_more bytes rest h.slots (h.slots ++ slots_of i) i m h.reads is found refl more;
      leaves = leaves_more bytes rest h.slots (h.slots ++ slots_of i) i m h.leaves some only refl
          more;
    }
