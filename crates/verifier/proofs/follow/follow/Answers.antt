use Rattle.std.proofs.Common.{◌≡◌, Some, refl, sym, ap}
use Rattle.std.specs.Prelude.{slice_get}
use Rattle.isa.specs.declared.code.Slot.TheVariants.{Start}
use Rattle.isa.specs.declared.instruction.Instruction.TheVariants.{Exit, Jump, LongJump}
use Rattle.std.specs.Int.{w16, w32}
use Rattle.std.proofs.lemmas.Int.{to_z-of_z}
use Rattle.isa.specs.Code.{IsInstruction}
use Rattle.isa.specs.Flow.{slot_at_distance}
use Rattle.verifier.specs.Places.{IsWellPlaced}
use Rattle.verifier.specs.Refusals.{MayRefuseInstruction}
use Rattle.verifier.proofs.Followed.{goes_by_jump, goes_nowhere}
use Rattle.verifier.proofs.Named.{edge_follows}
use Rattle.verifier.proofs.SegmentsPlain.{hands_on, jump_edge, never}
use Rattle.verifier.proofs.follow.follow.Goals as goal

pub returns-in_ok-end-in-Exit-clause-followed : goal.returns-in_ok-end-in-Exit-clause-followed
returns-in_ok-end-in-Exit-clause-followed g c =
    let here : slice_get c.args.code.now c.args.slot ≡ Some (Start Exit) =
    rw (← c.in-Exit.is) c.requires.here in
    rw c.in-Exit.is (goes_nowhere g.D.Domain.contains c.args.code.now c.args.hook
    c.args.segment_starts.now
    c.args.segment.now c.args.slot c.in_ok-end-in-Exit.field-0 c.args.state here
    (λ input start now holds at fault stuck. c.in_ok-end-in-Exit.ensures.free c.args.code.now
    c.args.hook input start now holds at fault stuck))

pub returns-in_err-leave-in-Jump-clause-named : goal.returns-in_err-leave-in-Jump-clause-named
returns-in_err-leave-in-Jump-clause-named g c =
    hands_on c.from_residual.result c.in_err-leave-in-Jump.field-0.0
    (MayRefuseInstruction c.args.hook c.args.instruction) c.from_residual.ensures.1
    (edge_follows c.args.hook c.args.instruction c.in_err-leave-in-Jump.field-0.0
    c.in_err-leave-in-Jump.ensures.named)

pub returns-in_err-leave-in-Jump-clause-plain : goal.returns-in_err-leave-in-Jump-clause-plain
returns-in_err-leave-in-Jump-clause-plain g c = λ here.
    let ranges : IsInstruction (Jump c.in-Jump.distance) =
    rw c.in-Jump.is at c.prove_ranges.ensures in
    let to : c.jumped_near.result ≡ slot_at_distance c.args.slot c.in-Jump.distance =
    simp (to_z-of_z w16 c.in-Jump.distance ranges) at c.jumped_near.ensures in
    never (c.in_err-leave-in-Jump.ensures.plain
    (jump_edge g.D.Domain.contains c.args.segment_starts.now c.args.segment.now c.args.slot
    c.args.instruction c.args.state here c.jumped_near.result
    (rw c.in-Jump.is (sym (ap Some to))) (rw c.in-Jump.is refl)))

pub returns-in_ok-leave-in-Jump-clause-followed : goal.returns-in_ok-leave-in-Jump-clause-followed
returns-in_ok-leave-in-Jump-clause-followed g c =
    let ranges : IsInstruction (Jump c.in-Jump.distance) =
    rw c.in-Jump.is at c.prove_ranges.ensures in
    let to : c.jumped_near.result ≡ slot_at_distance c.args.slot c.in-Jump.distance =
    simp (to_z-of_z w16 c.in-Jump.distance ranges) at c.jumped_near.ensures in
    let here : slice_get c.args.code.now c.args.slot ≡ Some (Start (Jump c.in-Jump.distance)) =
    rw (← c.in-Jump.is) c.requires.here in
    let placed : IsWellPlaced c.args.code.now c.args.segment_starts.now c.args.slot
    (Jump c.in-Jump.distance) = rw (← c.in-Jump.is) c.requires.placed in
    rw c.in-Jump.is (goes_by_jump g.D.Domain.contains c.args.code.now c.args.hook
    c.args.segment_starts.now
    c.args.segment.now c.args.slot c.in_ok-leave-in-Jump.field-0 (Jump c.in-Jump.distance)
    c.in-Jump.distance c.args.state
    c.what_can_step_is_never_stuck.ensures here placed.jump.begins
    (λ input now next label does. does) (λ input now next label goes. goes)
    (λ start now next known same. c.in_ok-leave-in-Jump.ensures.enters start now next known
    (rw to same)))

pub returns-in_err-leave-in-LongJump-clause-named :
    goal.returns-in_err-leave-in-LongJump-clause-named
returns-in_err-leave-in-LongJump-clause-named g c =
    hands_on c.from_residual-in_err-leave-in-LongJump.result c.in_err-leave-in-LongJump.field-0.0
    (MayRefuseInstruction c.args.hook c.args.instruction)
    c.from_residual-in_err-leave-in-LongJump.ensures.1
    (edge_follows c.args.hook c.args.instruction c.in_err-leave-in-LongJump.field-0.0
    c.in_err-leave-in-LongJump.ensures.named)

pub returns-in_err-leave-in-LongJump-clause-plain :
    goal.returns-in_err-leave-in-LongJump-clause-plain
returns-in_err-leave-in-LongJump-clause-plain g c = λ here.
    let ranges : IsInstruction (LongJump c.in-LongJump.distance) =
    rw c.in-LongJump.is at c.prove_ranges.ensures in
    let to : c.jumped.result ≡ slot_at_distance c.args.slot c.in-LongJump.distance =
    simp (to_z-of_z w32 c.in-LongJump.distance ranges) at c.jumped.ensures in
    never (c.in_err-leave-in-LongJump.ensures.plain
    (jump_edge g.D.Domain.contains c.args.segment_starts.now c.args.segment.now c.args.slot
    c.args.instruction c.args.state here c.jumped.result
    (rw c.in-LongJump.is (sym (ap Some to))) (rw c.in-LongJump.is refl)))

pub returns-in_ok-leave-in-LongJump-clause-followed :
    goal.returns-in_ok-leave-in-LongJump-clause-followed
returns-in_ok-leave-in-LongJump-clause-followed g c =
    let ranges : IsInstruction (LongJump c.in-LongJump.distance) =
    rw c.in-LongJump.is at c.prove_ranges.ensures in
    let to : c.jumped.result ≡ slot_at_distance c.args.slot c.in-LongJump.distance =
    simp (to_z-of_z w32 c.in-LongJump.distance ranges) at c.jumped.ensures in
    let here : slice_get c.args.code.now c.args.slot
    ≡ Some (Start (LongJump c.in-LongJump.distance)) =
    rw (← c.in-LongJump.is) c.requires.here in
    let placed : IsWellPlaced c.args.code.now c.args.segment_starts.now c.args.slot
    (LongJump c.in-LongJump.distance) = rw (← c.in-LongJump.is) c.requires.placed in
    rw c.in-LongJump.is (goes_by_jump g.D.Domain.contains c.args.code.now c.args.hook
    c.args.segment_starts.now c.args.segment.now c.args.slot c.in_ok-leave-in-LongJump.field-0
    (LongJump c.in-LongJump.distance) c.in-LongJump.distance c.args.state
    c.what_can_step_is_never_stuck.ensures here placed.jump.begins
    (λ input now next label does. does) (λ input now next label goes. goes)
    (λ start now next known same. c.in_ok-leave-in-LongJump.ensures.enters start now next known
    (rw to same)))
