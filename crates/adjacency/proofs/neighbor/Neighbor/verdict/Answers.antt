use Rattle.std.proofs.Common.{ap, sym, ◌∙◌}
use Rattle.adjacency.specs.declared.state.NeighborState.TheVariants.{Init, ExStart, Exchange}
use Rattle.adjacency.specs.declared.state.NeighborState.TheVariants.{Loading, Full}
use Rattle.adjacency.proofs.Judged.{judged_in}
use Rattle.adjacency.proofs.neighbor.Neighbor.verdict.Goals as goal

pub returns-in-Init : goal.returns-in-Init
returns-in-Init c = judged_in c.args.own c.args.self.now.present c.args.description.now Init
    (sym (ap (λ s. s.state) c.standing-standing.ensures) ∙ c.in-Init.is)

pub returns-in-ExStart : goal.returns-in-ExStart
returns-in-ExStart c = c.negotiating.ensures
    ∙ judged_in c.args.own c.args.self.now.present c.args.description.now ExStart
    (sym (ap (λ s. s.state) c.standing-standing.ensures) ∙ c.in-ExStart.is)

pub returns-in-Exchange : goal.returns-in-Exchange
returns-in-Exchange c = c.exchanging.ensures
    ∙ judged_in c.args.own c.args.self.now.present c.args.description.now Exchange
    (sym (ap (λ s. s.state) c.standing-standing.ensures) ∙ c.in-Exchange.is)

pub returns-in-Loading : goal.returns-in-Loading
returns-in-Loading c = c.exchange_over.ensures
    ∙ judged_in c.args.own c.args.self.now.present c.args.description.now Loading
    (sym (ap (λ s. s.state) c.standing-standing.ensures) ∙ c.in-Loading.is)

pub returns-in-Full : goal.returns-in-Full
returns-in-Full c = c.exchange_over-in-Full.ensures
    ∙ judged_in c.args.own c.args.self.now.present c.args.description.now Full
    (sym (ap (λ s. s.state) c.standing-standing.ensures) ∙ c.in-Full.is)
