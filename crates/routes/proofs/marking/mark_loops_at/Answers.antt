use Rattle.std.proofs.Common.{List, Bool, subst}
use Rattle.routes.specs.Loops.{MarksBetween, MarksLoopsAt}
use Rattle.routes.proofs.Marks.{marks_round, on_ok}
use Rattle.routes.proofs.marking.mark_loops_at.Goals as goal

pub returns : goal.returns
returns c =
    let hops = c.args.hops.now in
    let old = c.args.marks.now in
    let new = c.mark_between.new.marks in
    let B : List Bool → Type 0 = λ xs. MarksBetween hops c.args.place xs old new in
    on_ok (B c.deref.result.now) (MarksLoopsAt hops c.args.place old new) c.mark_between.result
    (λ between. marks_round hops c.args.place c.in_ok-ahead.ahead.items old new c.requires.sound
    c.requires.whole c.in_ok-ahead.ensures.sound c.in_ok-ahead.ensures.complete
    (subst B c.deref.ensures.value between)) c.mark_between.ensures
