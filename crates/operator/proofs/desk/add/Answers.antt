use Rattle.std.proofs.Common.{true, false, subst}
use Rattle.turns.specs.Askers.{asker_state}
use Rattle.worker.specs.Lives.{senses_of, standing}
use Rattle.turns.specs.declared.work.Work.TheVariants as work
use Rattle.turns.proofs.Askers.{same_state}
use Rattle.operator.proofs.Done.{announced}
use Rattle.operator.proofs.Served.{served_still}
use Rattle.operator.proofs.desk.add.Goals as goal

pub returns-then-wants-clause-told : goal.returns-then-wants-clause-told
returns-then-wants-clause-told g c =
    announced g.B.Taker.offers g.B.Taker.took g.B.Taker.refuses g.B.Taker.wanted
    (asker_state c.args.port.now.asker c.args.port.now.seat)
    (asker_state c.take.new.port.asker c.take.new.port.seat)
    (asker_state c.wants.new.port.asker c.wants.new.port.seat) c.args.external
    c.args.port.now.share.amount c.take.new.port.share.amount c.wants.new.port.share.amount true
    (same_state (asker_state c.take.new.port.asker c.take.new.port.seat)
    (asker_state c.wants.new.port.asker c.wants.new.port.seat) c.wants.ensures.known
    c.wants.ensures.seat)
    c.wants.ensures.share c.in-Ok.ensures.taken
    (subst (λ is. g.B.Taker.wanted c.take.new.port.share.amount c.args.external.prefix is)
    c.if-wants.true c.wants.ensures.wanted)

pub returns-in-Ok-clause-told : goal.returns-in-Ok-clause-told
returns-in-Ok-clause-told g c =
    announced g.B.Taker.offers g.B.Taker.took g.B.Taker.refuses g.B.Taker.wanted
    (asker_state c.args.port.now.asker c.args.port.now.seat)
    (asker_state c.take.new.port.asker c.take.new.port.seat)
    (asker_state c.wants.new.port.asker c.wants.new.port.seat) c.args.external
    c.args.port.now.share.amount c.take.new.port.share.amount c.wants.new.port.share.amount false
    (same_state (asker_state c.take.new.port.asker c.take.new.port.seat)
    (asker_state c.wants.new.port.asker c.wants.new.port.seat) c.wants.ensures.known
    c.wants.ensures.seat)
    c.wants.ensures.share c.in-Ok.ensures.taken
    (subst (λ is. g.B.Taker.wanted c.take.new.port.share.amount c.args.external.prefix is)
    c.if-wants.false c.wants.ensures.wanted)

pub returns-then-wants-clause-served : goal.returns-then-wants-clause-served
returns-then-wants-clause-served g c =
    served_still g.K.Transport.faults
    (senses_of g.K.Transport.gives g.K.Transport.hears g.C.Seconds.shows
    g.B.Taker.offers g.B.Taker.took g.B.Taker.refuses c.args.port.now.number)
    (work.Add c.args.external)
    (standing c.args.outlet.now.transport c.args.outlet.now.clock
    (asker_state c.args.port.now.asker c.args.port.now.seat)
    c.args.port.now.share.amount)
    c.take.new.self.transport c.take.new.self.clock
    (asker_state c.take.new.port.asker c.take.new.port.seat)
    (asker_state c.wants.new.port.asker c.wants.new.port.seat) c.take.new.port.share.amount
    c.wants.new.port.share.amount
    (same_state (asker_state c.take.new.port.asker c.take.new.port.seat)
    (asker_state c.wants.new.port.asker c.wants.new.port.seat) c.wants.ensures.known
    c.wants.ensures.seat)
    c.wants.ensures.share c.take.ensures.faults c.take.ensures.served

pub returns-in-Ok-clause-served : goal.returns-in-Ok-clause-served
returns-in-Ok-clause-served g c =
    served_still g.K.Transport.faults
    (senses_of g.K.Transport.gives g.K.Transport.hears g.C.Seconds.shows
    g.B.Taker.offers g.B.Taker.took g.B.Taker.refuses c.args.port.now.number)
    (work.Add c.args.external)
    (standing c.args.outlet.now.transport c.args.outlet.now.clock
    (asker_state c.args.port.now.asker c.args.port.now.seat)
    c.args.port.now.share.amount)
    c.take.new.self.transport c.take.new.self.clock
    (asker_state c.take.new.port.asker c.take.new.port.seat)
    (asker_state c.wants.new.port.asker c.wants.new.port.seat) c.take.new.port.share.amount
    c.wants.new.port.share.amount
    (same_state (asker_state c.take.new.port.asker c.take.new.port.seat)
    (asker_state c.wants.new.port.asker c.wants.new.port.seat) c.wants.ensures.known
    c.wants.ensures.seat)
    c.wants.ensures.share c.take.ensures.faults c.take.ensures.served
