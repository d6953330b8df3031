use Rattle.std.proofs.Common.{◌≡◌, ◌+◌, ◌<◌, suc, [], ◌∷◌, length, drop, sym, ap, ◌∙◌, subst, arith}
use Rattle.std.proofs.Common.{add-one, drop-cons}
use Rattle.std.proofs.lemmas.Grind.{common_steps}
use Rattle.verifier.proofs.SegmentStarts.{AreFoundSoFar, all_found, none_found, one_more_found}
use Rattle.verifier.proofs.starts.segment_starts_of.Goals as goal

pub loop-statement-init : goal.loop-statement-init
loop-statement-init g c = none_found g.D.Domain.contains g.D.Domain.stated_gives
    c.args.statements.now c.args.size c.in_ok-segment_starts.segment_starts.items
    c.in_ok-segment_starts.ensures.long
    c.in_ok-segment_starts.ensures.none c.requires

pub loop-statement-preserved : goal.loop-statement-preserved
loop-statement-preserved g c =
    let statements = c.args.statements.now in
    let s = c.statement-item.result in
    let i = c.loop-statement.statement-index in
    let inside : i < length statements = c.loop-statement-test.true in
    let cut : drop i statements ≡ s ∷ drop (i + 1) statements =
    rw add-one (drop-cons statements i s inside
    ∙ ap (λ x. x ∷ drop (suc i) statements) (sym c.statement-item.is)) in
    let more = one_more_found g.D.Domain.contains g.D.Domain.stated_gives statements s
    (drop (i + 1) statements) c.args.size c.loop-statement.segment_starts.items
    c.in_ok-segment.segment
    (subst (λ ss. AreFoundSoFar g.D.Domain.contains g.D.Domain.stated_gives statements ss
    c.args.size c.loop-statement.segment_starts.items) cut c.loop-statement.invariant)
    (record {
      same = c.in_ok-segment.ensures.statement;
      ten = c.in_ok-segment.ensures.ten;
      read = c.in_ok-segment.ensures.read;
    }) c.in_ok-segment.ensures.meets in
    rw c.slot.ensures.value more

pub returns-clause-are : goal.returns-clause-are
returns-clause-are g c =
    let none : drop c.loop-statement.statement-index c.args.statements.now ≡ [] =
    grind (arith, common_steps) in
    all_found g.D.Domain.contains g.D.Domain.stated_gives c.args.statements.now
    (drop c.loop-statement.statement-index c.args.statements.now) c.args.size
    c.loop-statement.segment_starts.items c.loop-statement.invariant none

pub returns-clause-meet : goal.returns-clause-meet
returns-clause-meet g c = c.loop-statement.invariant.meet
