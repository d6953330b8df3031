-- Bytes that are refused spell no code.
use Rattle.std.proofs.Common.{◌≡◌, ℕ, ◌*◌, ◌≤◌, List, [], ◌∷◌, ◌++◌, length, take, refl, sym, ap}
use Rattle.std.proofs.Common.{◌∙◌, arith, append_assoc, length-append, inl, inr}
use Rattle.std.specs.Prelude.{◌≢◌, IsTrue, if◌then◌else◌}
use Rattle.std.specs.List.{flat_map, AllByRecursion}
use Rattle.std.proofs.Math.Seq.{take-append_seam}
use Rattle.isa.specs.declared.instruction.Instruction.{Instruction}
use Rattle.isa.specs.declared.code.Slot.{Slot}
use Rattle.isa.specs.declared.code.Slot.TheVariants.{Start, SecondHalf}
use Rattle.isa.specs.declared.decoding.DecodeFault.{DecodeFault}
use Rattle.isa.specs.declared.decoding.DecodeFault.TheVariants as faults
use Rattle.isa.specs.Code.{IsInstruction, is_wide}
use Rattle.isa.specs.Spelling.{fields_of, bytes_of, Spells}
use Rattle.isa.specs.Refusals.{Fails, FailsAt, Refuses}
use Rattle.isa.proofs.Ranges.{ranged, same_fields}
use Rattle.isa.proofs.Only.{front_fields, front_opcode}
use Rattle.isa.proofs.Faults.{has_registers}
use Rattle.isa.proofs.Fronts.{length-bytes_of, spells_long}
use Rattle.isa.proofs.Unique.{small, wide_alike, same_front}

-- what follows the instructions at the front is instructions again
follow : (is js : List Instruction) (rest : List ℕ) → AllByRecursion IsInstruction is
    → AllByRecursion IsInstruction js → flat_map bytes_of is ++ rest ≡ flat_map bytes_of js
    → (ks : List Instruction) × AllByRecursion IsInstruction ks × (rest ≡ flat_map bytes_of ks)
follow [] js rest a b e = (js, b, e)
follow (i ∷ is) [] rest a b e =
    absurd (omega (
      arith,
      ap length e,
      length-append (bytes_of i ++ flat_map bytes_of is) rest,
      length-append (bytes_of i) (flat_map bytes_of is),
      length-bytes_of i,
    ))
follow (i ∷ is) (j ∷ js) rest (a, as') (b, bs) e =
    let same = same_front i j (flat_map bytes_of is ++ rest) (flat_map bytes_of js) a b
    (sym (append_assoc (bytes_of i) (flat_map bytes_of is) rest) ∙ e) in
    follow is js rest as' bs same.1

long_wide : (k : Instruction) → IsTrue (is_wide k) → length (bytes_of k) ≡ 16
long_wide k wide = length-bytes_of k
    ∙ ap (λ b. 8 * length (Start k ∷ (if b then SecondHalf ∷ [] else []))) wide

-- bytes that begin with an instruction fail in no way
fails_not : (k : Instruction) (rest : List ℕ) (fault : DecodeFault) → IsInstruction k
    → bytes_of k ≡ take (length (bytes_of k)) rest → length (bytes_of k) ≤ length rest
    → Fails rest fault → ⊥
fails_not k rest faults.Opcode is e long unlisted =
    unlisted k (sym (front_opcode (fields_of k) rest (front_fields k rest e)))
fails_not k rest faults.Register is e long (listed, above) =
    let r = ranged k is in
    let has = has_registers (fields_of k) rest (small k is) (front_fields k rest e) r.target
    r.source in
    elim above [ inl a ↦ omega (arith, a, has.0) | inr b ↦ omega (arith, b, has.1) ]
fails_not k rest faults.Reserved is e long (listed, registers, other) =
    elim other [ inl none ↦ none k (is, front_fields k rest e) | inr second ↦ second.1 k (is, e) ]
fails_not k rest faults.HalfWide is e long (half, (i, wide, (i_is, front))) =
    let same = same_fields (fields_of i) (fields_of k) (small i i_is) (small k is)
    (front ∙ sym (front_fields k rest e)) in
    let k_wide : IsTrue (is_wide k) = sym (wide_alike i k i_is is same) ∙ wide in
    omega (arith, half, long, long_wide k k_wide)
fails_not k rest faults.Length is e long never = never
fails_not k rest faults.TooLong is e long never = never
fails_not k rest faults.Memory is e long never = never

not_begun : (rest : List ℕ) (fault : DecodeFault) → 1 ≤ length rest → Fails rest fault
    → (ks : List Instruction) → AllByRecursion IsInstruction ks → rest ≡ flat_map bytes_of ks → ⊥
not_begun rest fault some fails [] all e = omega (arith, some, ap length e)
not_begun rest fault some fails (k ∷ ks) (is, all) e =
    fails_not k rest fault is (rw e (sym (take-append_seam (bytes_of k) (flat_map bytes_of ks))))
    (omega (arith, ap length e, length-append (bytes_of k) (flat_map bytes_of ks))) fails

unspelled : (bytes : List ℕ) (slot : ℕ) (fault : DecodeFault) (code : List Slot)
    → FailsAt bytes slot fault → Spells bytes code → ⊥
unspelled bytes slot fault code h p =
    let joined : flat_map bytes_of h.spelled.instructions ++ h.rest
    ≡ flat_map bytes_of p.spelled.instructions =
    ap (λ xs. xs ++ h.rest) (sym h.spelled.bytes_are) ∙ sym h.parts ∙ p.spelled.bytes_are in
    let left = follow h.spelled.instructions p.spelled.instructions h.rest h.spelled.each
    p.spelled.each joined in
    not_begun h.rest fault h.some h.fails left.0 left.1 left.2

pub refused : (bytes : List ℕ) (slot : ℕ) (fault : DecodeFault) (code : List Slot)
    → Refuses bytes slot fault → fault ≢ faults.Memory → Spells bytes code → ⊥
refused bytes slot faults.Length code (here, wrong) not p =
    let long = spells_long bytes code p in let some = p.code_is.some in
    elim wrong [ inl none ↦ omega (arith, none, long, some) | inr odd ↦ odd (omega (arith, long)) ]
refused bytes slot faults.TooLong code (here, whole, more) not p =
    let long = spells_long bytes code p in let most = p.code_is.most in
    omega (arith, more, long, most)
refused bytes slot faults.Memory code h not p = not refl
refused bytes slot faults.Opcode code h not p = unspelled bytes slot faults.Opcode code h.1 p
refused bytes slot faults.Register code h not p = unspelled bytes slot faults.Register code h.1 p
refused bytes slot faults.Reserved code h not p = unspelled bytes slot faults.Reserved code h.1 p
refused bytes slot faults.HalfWide code h not p = unspelled bytes slot faults.HalfWide code h.1 p
