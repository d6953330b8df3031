use Rattle.verifier.proofs.Entries.{edge_of}
use Rattle.kinds.specs.Plain.{HoldsNumber}
use Rattle.std.proofs.Common.{false}
use Rattle.verifier.proofs.SegmentsPlain.{enter_more, never}
use Rattle.verifier.proofs.entry.enter_start.Goals as goal

pub returns-in-Ok-clause-edge : goal.returns-in-Ok-clause-edge
returns-in-Ok-clause-edge g c = λ target stated.
    edge_of g.D.Domain.contains c.args.segment_starts.now c.args.entry.now c.in-Some.target.now
    target
    c.in-Some.ensures stated
    (λ machine holds. c.in-Ok.ensures.enters machine machine (record {
      begins = holds;
      holds = c.reset-state.ensures.holds machine holds;
    }))

pub returns-in-Err-clause-plain : goal.returns-in-Err-clause-plain
returns-in-Err-clause-plain g c = λ may.
    never (c.in-Err.ensures.plain (enter_more g.D.Domain.contains c.args.segment_starts.now
    c.args.entry.now false 0 (λ r. ⊥) (HoldsNumber c.reset-state.result) (λ r none. absurd none)
    may c.in-Some.target.now c.in-Some.ensures))
