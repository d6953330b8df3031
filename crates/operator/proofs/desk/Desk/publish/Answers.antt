use Rattle.turns.specs.Askers.{asker_state}
use Rattle.worker.specs.Lives.{senses_of, standing}
use Rattle.operator.proofs.Served.{unserved_still}
use Rattle.operator.proofs.desk.Desk.publish.Goals as goal

pub returns-then-is_err-clause-served : goal.returns-then-is_err-clause-served
returns-then-is_err-clause-served g c =
    let senses = senses_of g.K.Transport.gives g.K.Transport.hears g.C.Seconds.shows
    g.B.Taker.offers g.B.Taker.took g.B.Taker.refuses c.args.port.now.number in
    let own = c.args.self.now.outlet in
    let now = standing own.transport own.clock
    (asker_state c.args.port.now.asker c.args.port.now.seat)
    c.args.port.now.share.amount in
    unserved_still g.K.Transport.faults senses now

pub returns-clause-served : goal.returns-clause-served
returns-clause-served g c = c.follow.ensures.served
