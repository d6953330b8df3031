use Rattle.turns.specs.Askers.{asker_state}
use Rattle.daemon.proofs.Talked.{talked_output}
use Rattle.daemon.proofs.talk.talk.Goals as goal

pub returns-clause-conversed : goal.returns-clause-conversed
returns-clause-conversed g c = record {
  asker = asker_state c.tick.new.port.asker c.tick.new.port.seat;
  events = c.tick.new.port.share.amount;
  later = c.tick.ensures.later;
  ticked = c.tick.ensures.ticked;
  talked = c.answer_all-console_end.ensures;
}

pub returns-clause-output : goal.returns-clause-output
returns-clause-output g c is = talked_output _ _ _ _ _ _ _ _ _ _ _ c.answer_all-console_end.ensures
    is
