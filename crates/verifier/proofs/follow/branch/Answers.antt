use Rattle.std.proofs.Common.{◌≡◌, ◌+◌, Some, refl, sym, ap, arith}
use Rattle.std.proofs.lemmas.Int.{to_z-of_z}
use Rattle.std.specs.Int.{w16}
use Rattle.isa.specs.Flow.{slot_at_distance}
use Rattle.isa.specs.declared.instruction.Instruction.TheVariants.{Branch}
use Rattle.verifier.specs.Refusals.{MayRefuseInstruction}
use Rattle.verifier.proofs.Followed.{goes_by_test}
use Rattle.verifier.proofs.Named.{edge_follows}
use Rattle.verifier.proofs.SegmentsPlain.{beside, hands_on, jump_edge, kept_again, never, pass_edge}
use Rattle.verifier.proofs.follow.branch.Goals as goal

pub returns-clause-followed : goal.returns-clause-followed
returns-clause-followed g c =
    let to : c.jumped_near-to.result ≡ slot_at_distance c.args.slot c.args.distance =
    simp (to_z-of_z w16 c.args.distance c.ranges.distance) at c.jumped_near-to.ensures in
    goes_by_test g.D.Domain.contains c.args.code.now c.args.hook c.args.segment_starts.now
    c.args.segment.now c.args.slot c.in_ok-after.after c.args.width c.args.test
    c.args.operands.now.left c.args.operands.now.right c.args.distance c.args.state
    c.in_ok-edges.edges
    c.what_can_step_is_never_stuck.ensures c.requires.here c.requires.placed
    c.in_ok-edges.ensures.tested
    (λ start now next begins besides taken same. c.in_ok-left.ensures.enters start now next begins
    besides taken (rw to same))
    (λ start now next begins besides passed same. c.in_ok-after.ensures.passes start now next
    c.args.slot begins (c.in_ok-left.ensures.besides start now besides) passed (omega arith)
    same)

pub returns-in_err-left-clause-named : goal.returns-in_err-left-clause-named
returns-in_err-left-clause-named g c =
    hands_on c.from_residual-in_err-left.result c.in_err-left.field-0.0
    (MayRefuseInstruction c.args.hook (Branch c.args.width c.args.test c.args.operands.now.left
    c.args.operands.now.right c.args.distance)) c.from_residual-in_err-left.ensures.1
    (edge_follows c.args.hook (Branch c.args.width c.args.test c.args.operands.now.left
    c.args.operands.now.right c.args.distance) c.in_err-left.field-0.0
    c.in_err-left.ensures.named)

pub returns-in_err-left-clause-plain : goal.returns-in_err-left-clause-plain
returns-in_err-left-clause-plain g c = λ here.
    let to : c.jumped_near-to.result ≡ slot_at_distance c.args.slot c.args.distance =
    simp (to_z-of_z w16 c.args.distance c.ranges.distance) at c.jumped_near-to.ensures in
    never (c.in_err-left.ensures.plain
    (jump_edge g.D.Domain.contains c.args.segment_starts.now c.args.segment.now c.args.slot
    (Branch c.args.width c.args.test c.args.operands.now.left c.args.operands.now.right
    c.args.distance) c.args.state here c.jumped_near-to.result (sym (ap Some to)) refl))

pub returns-in_err-after-clause-named : goal.returns-in_err-after-clause-named
returns-in_err-after-clause-named g c =
    hands_on c.from_residual-in_err-after.result c.in_err-after.field-0.0
    (MayRefuseInstruction c.args.hook (Branch c.args.width c.args.test c.args.operands.now.left
    c.args.operands.now.right c.args.distance)) c.from_residual-in_err-after.ensures.1
    (edge_follows c.args.hook (Branch c.args.width c.args.test c.args.operands.now.left
    c.args.operands.now.right c.args.distance) c.in_err-after.field-0.0
    c.in_err-after.ensures.named)

pub returns-in_err-after-clause-plain : goal.returns-in_err-after-clause-plain
returns-in_err-after-clause-plain g c = λ here.
    never (c.in_err-after.ensures.plain
    (pass_edge g.D.Domain.contains c.args.segment_starts.now c.args.segment.now c.args.slot
    (Branch c.args.width c.args.test c.args.operands.now.left c.args.operands.now.right
    c.args.distance) c.args.state here c.in_ok-left.left (c.args.slot + 1) (omega arith)
    refl refl
    (λ r filled. c.in_ok-left.ensures.keeps.others r
    (beside (Branch c.args.width c.args.test c.args.operands.now.left c.args.operands.now.right
    c.args.distance) c.args.state refl r filled))))

pub returns-clause-keeps : goal.returns-clause-keeps
returns-clause-keeps g c = kept_again c.args.state c.in_ok-left.left c.in_ok-after.after.state
    c.in_ok-left.ensures.keeps c.in_ok-after.ensures.keeps
