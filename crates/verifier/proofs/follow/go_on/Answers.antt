use Rattle.std.proofs.Common.{◌≡◌, ◌+◌, arith, refl}
use Rattle.isa.specs.Flow.{slot_after}
use Rattle.verifier.specs.Refusals.{MayRefuseInstruction}
use Rattle.verifier.proofs.Followed.{goes_straight}
use Rattle.verifier.proofs.Named.{edge_follows}
use Rattle.verifier.proofs.SegmentsPlain.{filled_behind, hands_on, never, pass_edge, plain_step}
use Rattle.verifier.proofs.follow.go_on.Goals as goal

pub returns-clause-followed : goal.returns-clause-followed
returns-clause-followed g c = goes_straight g.D.Domain.contains c.args.code.now c.args.hook
    c.args.segment_starts.now c.args.segment.now c.args.slot c.in_ok-after.after c.args.instruction
    c.args.state c.in_ok-known.known
    c.what_can_step_is_never_stuck.ensures c.requires.here c.requires.placed c.requires.goes_on
    c.in_ok-known.ensures.sound
    (λ start next there known. rw (← c.slots_of.ensures.value)
    (c.in_ok-after.ensures.passes start next c.args.slot (omega arith)
    (rw c.slots_of.ensures.value there) known))

pub returns-in_err-after-clause-named : goal.returns-in_err-after-clause-named
returns-in_err-after-clause-named g c =
    hands_on c.from_residual-in_err-after.result c.in_err-after.field-0.0
    (MayRefuseInstruction c.args.hook c.args.instruction) c.from_residual-in_err-after.ensures.1
    (edge_follows c.args.hook c.args.instruction c.in_err-after.field-0.0
    c.in_err-after.ensures.named)

pub returns-in_err-after-clause-plain : goal.returns-in_err-after-clause-plain
returns-in_err-after-clause-plain g c = λ here.
    let kept = c.in_ok-known.ensures.keeps
    (plain_step c.args.instruction here.plain c.requires.straight) here.reads here.ten in
    let behind : slot_after c.args.slot c.args.instruction ≡ c.args.slot + c.slots_of.result =
    rw c.slots_of.ensures.value refl in
    never (c.in_err-after.ensures.plain
    (pass_edge g.D.Domain.contains c.args.segment_starts.now c.args.segment.now c.args.slot
    c.args.instruction c.args.state here c.in_ok-known.known
    (c.args.slot + c.slots_of.result) (omega (arith, c.slots_of.ensures.some)) behind
    c.requires.goes_on
    (filled_behind c.args.instruction c.args.state c.in_ok-known.known kept)))

pub returns-clause-keeps : goal.returns-clause-keeps
returns-clause-keeps g c = λ here.
    rw c.in_ok-after.ensures.same (c.in_ok-known.ensures.keeps
    (plain_step c.args.instruction here.plain c.requires.straight) here.reads here.ten)
