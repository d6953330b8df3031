use Rattle.std.proofs.Common.{[], ◌∷◌, ap, ◌∙◌}
use Rattle.adjacency.specs.Descriptions.{Verdict, first_verdict}
use Rattle.adjacency.specs.Exchanges.{becomes_master, becomes_slave}
use Rattle.adjacency.proofs.neighbor.Neighbor.negotiating.Goals as goal

pub returns : goal.returns
returns c =
    let follows_it = c.becomes_slave-becomes_slave.ensures
    ∙ ap (λ s. becomes_slave c.args.own s.router c.args.description.now) c.standing-standing.ensures
    in
    let leads_it = c.becomes_master-becomes_master.ensures
    ∙ ap (λ s. becomes_master c.args.own s.router s.sequence c.args.description.now)
    c.standing-standing.ensures in
    c.negotiation.ensures ∙ (λ i. first_verdict
    ((follows_it i, Verdict.NegotiatedAsSlave) ∷ (leads_it i, Verdict.NegotiatedAsMaster) ∷ [])
    Verdict.Discarded)
