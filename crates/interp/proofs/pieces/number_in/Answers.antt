use Rattle.std.proofs.Common.{◌≡◌, ℕ, ◌+◌, ◌-◌, ◌^◌, ◌*◌, ◌<◌, List, ◌∷◌, length, drop, get_or, ap}
use Rattle.std.proofs.Common.{subst, ◌∙◌, arith}
use Rattle.machine.specs.declared.state.StackByte.{StackByte}
use Rattle.machine.specs.declared.state.StackByte.TheVariants.{Nothing, Byte}
use Rattle.word_machine.proofs.Bytes.{drop_back, step_below, seven_below}
use Rattle.interp.proofs.pieces.number_in.Goals as goal

pub overflow_mul-number : goal.overflow_mul-number
overflow_mul-number c =
    let inv = c.loop-at.invariant in
    let more = c.loop-at-test.true in
    let few = seven_below c.loop-at.number (length c.args.found.now - c.loop-at.at)
    (omega (arith, c.requires)) inv.1 in
    omega arith

pub overflow_add-number : goal.overflow_add-number
overflow_add-number c =
    let inv = c.loop-at.invariant in
    let more = c.loop-at-test.true in
    let few = seven_below c.loop-at.number (length c.args.found.now - c.loop-at.at)
    (omega (arith, c.requires)) inv.1 in
    let byte = c.in-Some.ensures.some.1 in
    omega arith

pub loop-at-preserved : goal.loop-at-preserved
loop-at-preserved c =
    let inv = c.loop-at.invariant in
    let more = c.loop-at-test.true in
    let found : List StackByte = c.args.found.now in
    let at : ℕ = c.loop-at.at in
    let byte = c.in-Some.ensures.some.1 in
    let front : get_or found (at - 1) Nothing ≡ Byte c.in-Some.byte = c.in-Some.ensures.some.0 in
    let longer : length found - at + 1 ≡ length found - (at - 1) = omega arith in
    let P : ℕ → Type 0 = λ k. c.loop-at.number * 256 + c.in-Some.byte < 256 ^ k in (
      omega arith,
      subst P longer (step_below c.loop-at.number c.in-Some.byte (length found - at) inv.1 byte),
      (
        c.in-Some.byte ∷ inv.2.0,
        drop_back found at Nothing (omega arith) (omega arith)
            ∙ (ap (λ b. b ∷ drop at found) front ∙ ap (λ xs. Byte c.in-Some.byte ∷ xs) inv.2.1),
        omega (arith, inv.2.2),
      ),
    )
