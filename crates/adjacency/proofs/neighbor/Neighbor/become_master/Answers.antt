use Rattle.std.proofs.Common.{true, ap, ◌∙◌}
use Rattle.adjacency.specs.Descriptions.{negotiated_neighbor}
use Rattle.adjacency.specs.Exchanges.{accept_description}
use Rattle.adjacency.proofs.Doing.{sends_after}
use Rattle.adjacency.proofs.neighbor.Neighbor.become_master.Goals as goal

pub returns : goal.returns
returns c =
    let moment = c.args.moment in
    let db = c.args.database.now.present in
    sends_after c.accept.result c.negotiate.ensures.committed
    (ap (accept_description moment db c.args.description.now)
    (c.in_ok-negotiate.ensures.ok
    ∙ ap (λ q. negotiated_neighbor true q moment db c.args.self.now.present)
    c.sequence-sequence.ensures))
    c.accept.ensures
