use Rattle.std.proofs.Common.{inl}
use Rattle.verifier.proofs.Followed.{enters_next}
use Rattle.verifier.proofs.follow.pass_on.Goals as goal

pub returns-clause-passes : goal.returns-clause-passes
returns-clause-passes g c = λ start next slot less at known.
    inl (enters_next g.D.Domain.contains c.args.segment_starts.now c.args.segment.now
    c.in-Some.target.now
    slot c.args.next_slot start next less at c.in-Some.ensures
    (c.in_ok-enter.ensures.enters start next known))
