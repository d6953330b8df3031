use Rattle.std.proofs.Common.{refl}
use Rattle.std.specs.Prelude.{nat_le}
use Rattle.kinds.specs.Plain.{HoldsNumber}
use Rattle.verifier.proofs.Followed.{moved}
use Rattle.verifier.proofs.SegmentsPlain.{enter_more, never}
use Rattle.verifier.proofs.follow.take.Goals as goal

pub returns-clause-enters : goal.returns-clause-enters
returns-clause-enters g c = λ start now next begins besides taken same.
    let holds = c.refined-there.ensures.holds start now besides (rw c.in-Some.is at taken) in
    c.in_ok-jump_to.ensures.enters start next (rw same refl) (record {
      begins = begins;
      holds = moved g.D.Domain.contains _ start now next _ holds same;
    })

pub returns-in_err-jump_to-clause-plain : goal.returns-in_err-jump_to-clause-plain
returns-in_err-jump_to-clause-plain g c = λ may.
    never (c.in_err-jump_to.ensures.plain
    (enter_more g.D.Domain.contains c.args.segment_starts.now c.args.segment.now
    (nat_le c.args.to c.args.slot) c.args.to (HoldsNumber c.args.state)
    (HoldsNumber c.refined-there.result) c.refined-there.ensures.keeps may))
