use Rattle.std.proofs.Common.{refl, subst}
use Rattle.hooks.specs.Known.{operations_of, told_by}
use Rattle.turns.specs.Askers.{asker_state}
use Rattle.worker.specs.Lives.{senses_of, standing}
use Rattle.turns.specs.declared.work.Work.TheVariants as work
use Rattle.turns.proofs.Askers.{same_state}
use Rattle.operator.specs.Answers.{IsServed, learnt}
use Rattle.operator.specs.Served.{IsUnlessFault}
use Rattle.operator.proofs.Done.{followed}
use Rattle.operator.proofs.Served.{served_then}
use Rattle.operator.proofs.desk.Desk.follow.Goals as goal

pub returns-clause-followed : goal.returns-clause-followed
returns-clause-followed g c =
    let found = asker_state c.args.port.now.asker c.args.port.now.seat in
    let then = asker_state c.learn.new.self.asker c.learn.new.self.seat in
    let left = asker_state c.refresh.new.port.asker c.refresh.new.port.seat in
    followed g.B.Taker.offers g.B.Taker.took g.B.Taker.refuses
    (operations_of c.args.self.now.loader) (told_by c.notice-notice.result)
    found then left
    c.refresh.new.self.unrefreshed c.args.port.now.share.amount c.learn.new.self.share.amount
    c.refresh.new.port.share.amount c.notice-notice.ensures.0 c.count_program_change.ensures
    c.learn.ensures.saw c.learn.ensures.learnt
    (same_state (learnt found then.known) then refl c.learn.ensures.seat)
    c.refresh.ensures.later (λ i. (c.learn.ensures.share i).amount)
    c.refresh.ensures.done

pub returns-clause-served : goal.returns-clause-served
returns-clause-served g c =
    let faults = g.K.Transport.faults in
    let own = c.args.self.now.outlet in
    let found = asker_state c.args.port.now.asker c.args.port.now.seat in
    let learns = asker_state c.learn.new.self.asker c.learn.new.self.seat in
    let then = standing own.transport own.clock learns c.learn.new.self.share.amount in
    let after = standing c.refresh.new.self.outlet.transport c.refresh.new.self.outlet.clock
    (asker_state c.refresh.new.port.asker c.refresh.new.port.seat)
    c.refresh.new.port.share.amount in
    served_then faults (senses_of g.K.Transport.gives g.K.Transport.hears g.C.Seconds.shows
    g.B.Taker.offers g.B.Taker.took g.B.Taker.refuses c.args.port.now.number)
    work.Refresh own.transport own.clock after found learns
    c.learn.new.self.share.amount c.args.port.now.share.amount c.learn.ensures.saw
    (same_state (learnt found learns.known) learns refl c.learn.ensures.seat)
    (λ i. (c.learn.ensures.share i).amount)
    (subst (λ n. IsUnlessFault faults (IsServed
    (senses_of g.K.Transport.gives g.K.Transport.hears g.C.Seconds.shows
    g.B.Taker.offers g.B.Taker.took g.B.Taker.refuses n) work.Refresh) then after)
    c.learn.ensures.number c.refresh.ensures.served)
