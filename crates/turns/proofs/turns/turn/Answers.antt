use Rattle.turns.specs.Askers.{asker_state}
use Rattle.turns.proofs.Askers.{later_self, later_trans}
use Rattle.turns.proofs.Followed.{follows}
use Rattle.turns.proofs.turns.turn.Goals as goal

pub returns-clause-turned : goal.returns-clause-turned
returns-clause-turned g c = record {
  stale = c.in_ok-taken.taken.stale;
  between = asker_state c.make_event.new.asker c.make_event.new.seat;
  outs = (c.in_ok-event.event, c.in_ok-event.ensures.event, c.in_ok-taken.ensures.ok);
  unknown = c.in_ok-taken.ensures.unknown;
  refreshed =
      follows (λ outs. outs.items) g.B.Taker.offers g.B.Taker.took g.B.Taker.refuses
      (asker_state c.make_event.new.asker c.make_event.new.seat)
      (asker_state c.follow-refreshed.new.port.asker c.follow-refreshed.new.port.seat)
      c.args.moment _ _ _ _ c.in_ok-taken.taken.stale c.follow-refreshed.result
      c.in_ok-taken.ensures.share c.changes-changes.ensures c.follow-refreshed.ensures.later
      c.follow-refreshed.ensures.unasked c.follow-refreshed.ensures.none
      c.follow-refreshed.ensures.some c.follow-refreshed.ensures.unchanged;
}

pub returns-in_err-event-clause-counted : goal.returns-in_err-event-clause-counted
returns-in_err-event-clause-counted g c =
    let made = asker_state c.make_event.new.asker c.make_event.new.seat in
    (made, c.make_event.ensures.counted, later_self made)

pub returns-in_err-taken-clause-counted : goal.returns-in_err-taken-clause-counted
returns-in_err-taken-clause-counted g c =
    let made = asker_state c.make_event.new.asker c.make_event.new.seat in
    (made, c.make_event.ensures.counted, later_self made)

pub returns-clause-counted : goal.returns-clause-counted
returns-clause-counted g c = (
  asker_state c.make_event.new.asker c.make_event.new.seat,
  c.make_event.ensures.counted,
  c.follow-refreshed.ensures.later,
)

pub returns-clause-later : goal.returns-clause-later
returns-clause-later g c =
    later_trans (asker_state c.args.port.now.asker c.args.port.now.seat)
    (asker_state c.make_event.new.asker c.make_event.new.seat)
    (asker_state c.follow-refreshed.new.port.asker c.follow-refreshed.new.port.seat)
    c.make_event.ensures.later c.follow-refreshed.ensures.later
