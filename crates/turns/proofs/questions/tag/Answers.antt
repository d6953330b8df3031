use Rattle.hooks.specs.Questions.{tag_input}
use Rattle.turns.specs.Askers.{asker_state}
use Rattle.turns.proofs.Askers.{later_answered}
use Rattle.turns.proofs.Asked.{is_tag}
use Rattle.turns.proofs.Away.{of_tag}
use Rattle.turns.proofs.questions.tag.Goals as goal

pub returns-in-Some-clause-answer : goal.returns-in-Some-clause-answer
returns-in-Some-clause-answer g c =
    is_tag c.args.external.now c.args.moment c.args.rows.now c.in-Some.answer
    c.in-Some.ensures.question c.in-Some.ensures.answered

pub returns-in-None-clause-err : goal.returns-in-None-clause-err
returns-in-None-clause-err g c = of_tag g.B.Taker.refuses c.args.external.now c.args.moment
    c.args.rows.now c.in-None.ensures.lacking

pub returns-in-Some-clause-later : goal.returns-in-Some-clause-later
returns-in-Some-clause-later g c =
    later_answered (asker_state c.args.asker.now c.args.seat.now)
    (asker_state c.tag.new.asker c.tag.new.seat)
    (tag_input c.args.external.now c.args.moment c.args.rows.now) c.in-Some.answer.word
    c.in-Some.ensures.answered
