use Rattle.std.proofs.Common.{ap}
use Rattle.adjacency.specs.Exchanges.{accept_description}
use Rattle.adjacency.proofs.Doing.{sends_after}
use Rattle.adjacency.proofs.neighbor.Neighbor.become_slave.Goals as goal

pub returns : goal.returns
returns c =
    sends_after c.accept.result c.negotiate.ensures.committed
    (ap (accept_description c.args.moment c.args.database.now.present c.args.description.now)
    c.in_ok-negotiate.ensures.ok) c.accept.ensures
