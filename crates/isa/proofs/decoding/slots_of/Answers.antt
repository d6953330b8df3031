use Rattle.std.proofs.Common.{◌≤◌, length, sym, arith}
use Rattle.std.proofs.lemmas.Bool.{eqb-false, eqb-true}
use Rattle.isa.proofs.Fronts.{reads_more, leaves_more, leaves_one, leaves_none}
use Rattle.isa.proofs.decoding.slots_of.Goals as goal

pub loop-rest-preserved : goal.loop-rest-preserved
loop-rest-preserved c =
    let grown = c.in-Ok-push_slots.ensures.ok in
    let step = c.len.ensures in
    let now = c.push_slots.new.slots.ok.0 in
    let was = c.loop-rest.slots.ok.0 in
    let some : 1 ≤ length c.loop-rest.rest.now =
    omega (arith, eqb-false _ 0 (sym c.loop-rest-test.ensures)) in
    record {
      reads = rw c.split_at.ensures.back
          (reads_more _ _ _ _ c.in-Ok-first_instruction.instruction _ c.loop-rest.invariant.reads
          c.in-Ok-first_instruction.ensures.found.0 c.in-Ok-first_instruction.ensures.found.1
          grown (omega arith));
      whole = c.loop-rest.invariant.whole;
      leaves = rw c.split_at.ensures.back
          (leaves_more _ _ _ _ c.in-Ok-first_instruction.instruction _ c.loop-rest.invariant.leaves
          some (λ k is front. let e = c.in-Ok-first_instruction.ensures.only k is front in cc e)
          grown (omega arith));
    }

pub returns-in-Err-clause-only : goal.returns-in-Err-clause-only
returns-in-Err-clause-only c is each e =
    let some : 1 ≤ length c.loop-rest.rest.now =
    omega (arith, eqb-false _ 0 (sym c.loop-rest-test.ensures)) in
    let one = leaves_one _ _ _ c.loop-rest.invariant.leaves some is each e in
    let found = c.in-Err.ensures.only one.0 one.1 one.2 in absurd (cc found)

pub returns-clause-only : goal.returns-clause-only
returns-clause-only c is each e = leaves_none _ _ _ c.loop-rest.invariant.leaves
    (eqb-true _ 0 (sym c.loop-rest-test.ensures)) is each e
