use Rattle.std.proofs.Common.{refl, sym, ap}
use Rattle.adjacency.specs.Exchanges.{proceeding, verdict_of}
use Rattle.adjacency.proofs.Doing.{sends_after, sends_nothing}
use Rattle.adjacency.proofs.neighbor.Neighbor.proceed.Goals as goal

pub returns-in-Discarded : goal.returns-in-Discarded
unfolding proceeding
returns-in-Discarded c =
    sends_nothing _ refl (ap (λ v. proceeding (verdict_of v) c.args.moment
    c.args.database.now.present c.args.description.now c.args.self.now.present)
    (sym c.in-Discarded.is))

pub returns-in-NegotiatedAsSlave : goal.returns-in-NegotiatedAsSlave
unfolding proceeding
returns-in-NegotiatedAsSlave c =
    sends_after c.become_slave.result refl (ap (λ v. proceeding (verdict_of v) c.args.moment
    c.args.database.now.present c.args.description.now c.args.self.now.present)
    (sym c.in-NegotiatedAsSlave.is)) c.become_slave.ensures

pub returns-in-NegotiatedAsMaster : goal.returns-in-NegotiatedAsMaster
unfolding proceeding
returns-in-NegotiatedAsMaster c =
    sends_after c.become_master.result refl (ap (λ v. proceeding (verdict_of v) c.args.moment
    c.args.database.now.present c.args.description.now c.args.self.now.present)
    (sym c.in-NegotiatedAsMaster.is)) c.become_master.ensures

pub returns-in-Repeated : goal.returns-in-Repeated
unfolding proceeding
returns-in-Repeated c =
    sends_after c.repeat.result refl (ap (λ v. proceeding (verdict_of v) c.args.moment
    c.args.database.now.present c.args.description.now c.args.self.now.present)
    (sym c.in-Repeated.is)) c.repeat.ensures

pub returns-in-Accepted : goal.returns-in-Accepted
unfolding proceeding
returns-in-Accepted c =
    sends_after c.accept.result refl (ap (λ v. proceeding (verdict_of v) c.args.moment
    c.args.database.now.present c.args.description.now c.args.self.now.present)
    (sym c.in-Accepted.is)) c.accept.ensures

pub returns-in-Mismatch : goal.returns-in-Mismatch
unfolding proceeding
returns-in-Mismatch c =
    sends_nothing _ refl (ap (λ v. proceeding (verdict_of v) c.args.moment
    c.args.database.now.present c.args.description.now c.args.self.now.present)
    (sym c.in-Mismatch.is))
