use Rattle.std.proofs.Common.{false, refl}
use Rattle.kinds.specs.Plain.{HoldsNumber}
use Rattle.verifier.proofs.Followed.{moved}
use Rattle.verifier.proofs.SegmentsPlain.{enter_more, kept_on, never}
use Rattle.verifier.proofs.follow.stay.Goals as goal

pub returns-clause-passes : goal.returns-clause-passes
returns-clause-passes g c = λ start now next slot begins besides passed less same.
    let holds = c.refined-here.ensures.holds start now besides (rw c.in-Some.is at passed) in
    c.in_ok-after.ensures.passes start next slot less (rw same refl) (record {
      begins = begins;
      holds = moved g.D.Domain.contains _ start now next _ holds same;
    })

pub returns-in_err-after-clause-plain : goal.returns-in_err-after-clause-plain
returns-in_err-after-clause-plain g c = λ may.
    never (c.in_err-after.ensures.plain
    (enter_more g.D.Domain.contains c.args.segment_starts.now c.args.segment.now false
    c.args.next_slot
    (HoldsNumber c.args.state) (HoldsNumber c.refined-here.result) c.refined-here.ensures.keeps
    may))

pub returns-clause-keeps : goal.returns-clause-keeps
returns-clause-keeps g c =
    kept_on c.args.state c.refined-here.result c.in_ok-after.after.state (record {
      long = c.refined-here.ensures.long;
      others = c.refined-here.ensures.keeps;
    }) c.in_ok-after.ensures.same
