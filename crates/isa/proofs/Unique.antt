-- Bytes spell at most one code, and a code has one spelling.
use Rattle.std.proofs.Common.{◌≡◌, ℕ, ◌*◌, List, [], ◌∷◌, ◌++◌, length, take, drop, refl, sym, ap}
use Rattle.std.proofs.Common.{◌∙◌, arith, length-append}
use Rattle.std.specs.Prelude.{if◌then◌else◌}
use Rattle.std.specs.List.{flat_map, AllByRecursion}
use Rattle.std.proofs.Math.Seq.{take-append_seam, drop-append_seam}
use Rattle.isa.specs.declared.instruction.Instruction.{Instruction}
use Rattle.isa.specs.declared.code.Slot.{Slot}
use Rattle.isa.specs.declared.code.Slot.TheVariants.{Start, SecondHalf}
use Rattle.isa.specs.Code.{IsInstruction, is_wide, slots_of}
use Rattle.isa.specs.Spelling.{fields_of, bytes_of_fields, second_half, bytes_of, Spells}
use Rattle.isa.proofs.Ranges.{AreSmall, ranged, same_fields}
use Rattle.isa.proofs.Recovered.{instruction_from, number_of_half, recovered, same_wide}
use Rattle.isa.proofs.Fronts.{length-bytes_of}
use Rattle.isa.proofs.SlotBytes.{bytes_at, bytes_at-all}

pub small : (i : Instruction) → IsInstruction i → AreSmall (fields_of i)
small i is = let r = ranged i is in record {
  target = omega (arith, r.target);
  source = omega (arith, r.source);
  offset = r.offset;
  immediate = r.immediate;
}

-- instructions with the same first slot are both wide or both short
pub wide_alike : (i j : Instruction) → IsInstruction i → IsInstruction j → fields_of i ≡ fields_of j
    → is_wide i ≡ is_wide j
wide_alike i j is js e =
    ap is_wide (sym (recovered i is))
    ∙ ap (λ f. is_wide (instruction_from f (number_of_half (second_half i)))) e
    ∙ same_wide (fields_of j) (number_of_half (second_half i)) (number_of_half (second_half j))
    ∙ ap is_wide (recovered j js)

length_alike : (i j : Instruction) → is_wide i ≡ is_wide j
    → length (bytes_of i) ≡ length (bytes_of j)
length_alike i j e =
    length-bytes_of i ∙ ap (λ b. 8 * length (Start i ∷ (if b then SecondHalf ∷ [] else []))) e
    ∙ sym (length-bytes_of j)

-- if two instructions are spelled at the front of the same bytes, they are the same
pub same_front : (i j : Instruction) (xs ys : List ℕ) → IsInstruction i → IsInstruction j
    → bytes_of i ++ xs ≡ bytes_of j ++ ys → (i ≡ j) × (xs ≡ ys)
same_front i j xs ys is js e =
    let first : bytes_of_fields (fields_of i) ≡ bytes_of_fields (fields_of j) =
    ap (λ zs. take 8 zs) e in
    let fields = same_fields (fields_of i) (fields_of j) (small i is) (small j js) first in
    let long = length_alike i j (wide_alike i j is js fields) in
    let fronts : bytes_of i ≡ bytes_of j =
    sym (take-append_seam (bytes_of i) xs) ∙ ap (λ zs. take (length (bytes_of i)) zs) e
    ∙ ap (λ n. take n (bytes_of j ++ ys)) long ∙ take-append_seam (bytes_of j) ys in
    let rests : xs ≡ ys = sym (drop-append_seam (bytes_of i) xs)
    ∙ ap (λ zs. drop (length (bytes_of i)) zs) e ∙ ap (λ n. drop n (bytes_of j ++ ys)) long
    ∙ drop-append_seam (bytes_of j) ys in
    let seconds : second_half i ≡ second_half j = ap (λ zs. drop 8 zs) fronts in
    let same : i ≡ j = sym (recovered i is)
    ∙ ap (λ f. instruction_from f (number_of_half (second_half i))) fields
    ∙ ap (λ zs. instruction_from (fields_of j) (number_of_half zs)) seconds
    ∙ recovered j js in
    (same, rests)

pub same_instructions : (is js : List Instruction) → AllByRecursion IsInstruction is
    → AllByRecursion IsInstruction js → flat_map bytes_of is ≡ flat_map bytes_of js → is ≡ js
same_instructions [] [] a b e = refl
same_instructions [] (j ∷ js) a b e =
    absurd (omega (
      arith,
      ap length e,
      length-append (bytes_of j) (flat_map bytes_of js),
      length-bytes_of j,
    ))
same_instructions (i ∷ is) [] a b e =
    absurd (omega (
      arith,
      ap length e,
      length-append (bytes_of i) (flat_map bytes_of is),
      length-bytes_of i,
    ))
same_instructions (i ∷ is) (j ∷ js) (a, as') (b, bs) e =
    let same = same_front i j (flat_map bytes_of is) (flat_map bytes_of js) a b e in
    ap (λ k. k ∷ is) same.0 ∙ ap (λ ks. j ∷ ks) (same_instructions is js as' bs same.1)

pub same_code : (bytes : List ℕ) (a b : List Slot) → Spells bytes a → Spells bytes b → a ≡ b
same_code bytes a b p q =
    let same = same_instructions p.spelled.instructions q.spelled.instructions p.spelled.each
    q.spelled.each (sym p.spelled.bytes_are ∙ q.spelled.bytes_are) in
    p.spelled.slots_are ∙ ap (λ is. flat_map slots_of is) same ∙ sym q.spelled.slots_are

of_slots : (bytes : List ℕ) (code : List Slot) → Spells bytes code → bytes ≡ flat_map bytes_at code
of_slots bytes code h = h.spelled.bytes_are ∙ sym (bytes_at-all h.spelled.instructions)
    ∙ sym (ap (λ xs. flat_map bytes_at xs) h.spelled.slots_are)

pub same_bytes : (a b : List ℕ) (code : List Slot) → Spells a code → Spells b code → a ≡ b
same_bytes a b code p q = of_slots a code p ∙ sym (of_slots b code q)
