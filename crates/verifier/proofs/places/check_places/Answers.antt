use Rattle.std.proofs.Common.{⊎_elim, ◌≡◌, true, subst}
use Rattle.std.specs.Prelude.{IfSome, IsSome, IsSomeAnd, None}
use Rattle.isa.specs.Flow.{Begins}
use Rattle.verifier.specs.Places.{segment_start_at}
use Rattle.verifier.specs.Refusals.{IsPassedTo}
use Rattle.verifier.proofs.SegmentStarts.{stated_of}
use Rattle.verifier.proofs.Made.{met_target, met_ends, met_stated, jumps_unstated}
use Rattle.verifier.proofs.places.check_places.Goals as goal

pub returns-clause-made : goal.returns-clause-made
returns-clause-made g c = λ statements are passed.
    let code = c.args.code.now in
    let i = c.args.instruction.now in
    let segment_starts = c.args.segment_starts.now in
    record {
      target = met_target code c.args.slot i c.requires.here statements
          (subst (λ o. IfSome o (Begins code)) c.jump_of-to.ensures
          (c.jumps_nowhere.ensures.begins c.if-jumps_nowhere.false));
      ends = met_ends code c.args.slot i c.requires.here
          (c.falls_off.ensures.on c.if-falls_off.false);
      reached = λ unreached. ⊎_elim
          (λ (to : c.args.is_passed_to ≡ true).
          (subst (λ b. IsPassedTo b code c.args.slot) to passed) unreached.cut_off)
          (λ (stated : IsSome (segment_start_at segment_starts c.args.slot)). stated_of
          g.D.Domain.contains
          statements segment_starts c.args.slot are stated unreached.unstated)
          (c.is_unreached.ensures.reached c.if-is_unreached.false);
      stated = met_stated code c.args.slot i c.requires.here g.D.Domain.contains statements
          segment_starts
          are (subst (λ o. IfSome o (λ slot. IsSome (segment_start_at segment_starts slot)))
          c.jump_of-to.ensures
          (c.jumps_unstated.ensures.stated c.if-jumps_unstated.false));
    }

pub returns-then-jumps_unstated-clause-made : goal.returns-then-jumps_unstated-clause-made
returns-then-jumps_unstated-clause-made g c = λ statements are passed.
    let code = c.args.code.now in
    let i = c.args.instruction.now in
    let segment_starts = c.args.segment_starts.now in (
      jumps_unstated code c.args.slot i c.requires.here g.D.Domain.contains statements
          segment_starts are
          (subst (λ o. IsSomeAnd o (λ slot. segment_start_at segment_starts slot ≡ None))
          c.jump_of-to.ensures
          (c.jumps_unstated.ensures.unstated c.if-jumps_unstated.true)),
      (
        met_target code c.args.slot i c.requires.here statements
            (subst (λ o. IfSome o (Begins code)) c.jump_of-to.ensures
            (c.jumps_nowhere.ensures.begins c.if-jumps_nowhere.false)),
        met_ends code c.args.slot i c.requires.here (c.falls_off.ensures.on c.if-falls_off.false),
        λ unreached. ⊎_elim
            (λ (to : c.args.is_passed_to ≡ true).
            (subst (λ b. IsPassedTo b code c.args.slot) to passed) unreached.cut_off)
            (λ (stated : IsSome (segment_start_at segment_starts c.args.slot)). stated_of
            g.D.Domain.contains
            statements segment_starts c.args.slot are stated unreached.unstated)
            (c.is_unreached.ensures.reached c.if-is_unreached.false),
      ),
    )
