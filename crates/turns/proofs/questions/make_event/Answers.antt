use Rattle.turns.specs.Askers.{asker_state}
use Rattle.turns.proofs.Askers.{later_asked}
use Rattle.turns.proofs.Counted.{asks, counts, gives}
use Rattle.turns.proofs.questions.make_event.Goals as goal

pub returns-in_err-copied-in-Datagram-clause-counted :
    goal.returns-in_err-copied-in-Datagram-clause-counted
returns-in_err-copied-in-Datagram-clause-counted g c =
    counts (λ a. a.word) g.B.Taker.refuses (asker_state c.args.asker.now c.args.seat.now)
    (asker_state c.count-answer.new.asker c.count-answer.new.seat) c.in-Datagram.interface
    c.args.moment _
    c.count-answer.result _ _ c.as_slice.ensures c.in-Datagram.is
    c.count-answer.ensures.unread c.count-answer.ensures.lacking c.count-answer.ensures.answered

pub returns-in_ok-copied-in-Datagram-clause-counted :
    goal.returns-in_ok-copied-in-Datagram-clause-counted
returns-in_ok-copied-in-Datagram-clause-counted g c =
    counts (λ a. a.word) g.B.Taker.refuses (asker_state c.args.asker.now c.args.seat.now)
    (asker_state c.count-answer.new.asker c.count-answer.new.seat) c.in-Datagram.interface
    c.args.moment _
    c.count-answer.result _ _ c.as_slice.ensures c.in-Datagram.is
    c.count-answer.ensures.unread c.count-answer.ensures.lacking c.count-answer.ensures.answered

pub returns-in_err-copied-in-Datagram-clause-asked :
    goal.returns-in_err-copied-in-Datagram-clause-asked
returns-in_err-copied-in-Datagram-clause-asked g c =
    asks g.B.Taker.took c.in-Datagram.interface c.args.moment _ _ _ c.as_slice.ensures
    c.in-Datagram.is c.count-answer.ensures.asked

pub returns-in_ok-copied-in-Datagram-clause-asked :
    goal.returns-in_ok-copied-in-Datagram-clause-asked
returns-in_ok-copied-in-Datagram-clause-asked g c =
    asks g.B.Taker.took c.in-Datagram.interface c.args.moment _ _ _ c.as_slice.ensures
    c.in-Datagram.is c.count-answer.ensures.asked

pub returns-in_ok-copied-in-Datagram-clause-event :
    goal.returns-in_ok-copied-in-Datagram-clause-event
returns-in_ok-copied-in-Datagram-clause-event g c =
    gives (λ a. a.word) g.B.Taker.refuses (asker_state c.args.asker.now c.args.seat.now)
    (asker_state c.count-answer.new.asker c.count-answer.new.seat) c.in-Datagram.interface
    c.args.moment _ c.count-answer.result g.B.Taker.offers _ _ _ c.as_slice.ensures
    c.in_ok-copied-in-Datagram.ensures.copied c.in-Datagram.is
    c.count-answer.ensures.unread c.count-answer.ensures.lacking c.count-answer.ensures.answered

pub returns-in_err-copied-in-Datagram-clause-later :
    goal.returns-in_err-copied-in-Datagram-clause-later
returns-in_err-copied-in-Datagram-clause-later g c =
    later_asked (λ a. a.word) (asker_state c.args.asker.now c.args.seat.now)
    (asker_state c.count-answer.new.asker c.count-answer.new.seat) _ c.count-answer.result
    c.count-answer.ensures.unread c.count-answer.ensures.answered

pub returns-in_ok-copied-in-Datagram-clause-later :
    goal.returns-in_ok-copied-in-Datagram-clause-later
returns-in_ok-copied-in-Datagram-clause-later g c =
    later_asked (λ a. a.word) (asker_state c.args.asker.now c.args.seat.now)
    (asker_state c.count-answer.new.asker c.count-answer.new.seat) _ c.count-answer.result
    c.count-answer.ensures.unread c.count-answer.ensures.answered
