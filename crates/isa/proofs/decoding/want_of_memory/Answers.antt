use Rattle.std.proofs.Common.{◌≡◌, ◌≤◌, ◌*◌, length, refl, sym, ◌∙◌, arith, true, false}
use Rattle.std.proofs.lemmas.Bool.{eqb-false}
use Rattle.isa.specs.declared.instruction.Instruction.{Instruction}
use Rattle.isa.specs.Code.{is_wide, slots_of}
use Rattle.isa.proofs.Fronts.{has_read_more, leaves_one}
use Rattle.isa.proofs.decoding.want_of_memory.Goals as goal
use Rattle.isa.proofs.decoding.want_of_memory.Goals.{then-is_wide, else-is_wide}

two_slots : (i : Instruction) → is_wide i ≡ true → length (slots_of i) ≡ 2
two_slots i e = rw e refl

one_slot : (i : Instruction) → is_wide i ≡ false → length (slots_of i) ≡ 1
one_slot i e = rw e refl

pub returns-in-Err-clause-only : goal.returns-in-Err-clause-only
returns-in-Err-clause-only c is each e =
    let some : 1 ≤ length c.loop-rest.rest.now =
    omega (arith, eqb-false _ 0 (sym c.loop-rest-test.ensures)) in
    let one = leaves_one _ _ _ c.loop-rest.invariant.leaves some is each e in
    let found = c.in-Err.ensures.only one.0 one.1 one.2 in absurd (cc found)

pub loop-rest-preserved : goal.loop-rest-preserved
loop-rest-preserved c =
    let some : 1 ≤ length c.loop-rest.rest.now =
    omega (arith, eqb-false _ 0 (sym c.loop-rest-test.ensures)) in
    let taken : c.if-is_wide.taken ≡ length (slots_of c.in-Ok.instruction) =
    elim c.if-is_wide.branch [
      | then-is_wide w ↦ w.taken-is ∙ sym
          (two_slots c.in-Ok.instruction (sym c.is_wide.ensures ∙ w.if-is_wide.true))
      | else-is_wide w ↦ w.taken-is ∙ sym
          (one_slot c.in-Ok.instruction (sym c.is_wide.ensures ∙ w.if-is_wide.false))
    ] in
    let more = has_read_more _ _ _ c.in-Ok.instruction (8 * c.if-is_wide.taken) c.if-is_wide.taken
    c.loop-rest.invariant some c.in-Ok.ensures.found.0 c.in-Ok.ensures.found.1
    (λ k is front. let e = c.in-Ok.ensures.only k is front in cc e) taken refl in
    rw c.split_at.ensures.back more
