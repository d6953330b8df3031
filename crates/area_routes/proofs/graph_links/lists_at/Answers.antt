use Rattle.std.proofs.Common.{ℕ, Option, subst}
use Rattle.std.specs.Prelude.{MatchOption}
use Rattle.candidates.specs.Graphs.{StandsAt}
use Rattle.routes.specs.Links.{ListsRouter}
use Rattle.routes.specs.Contents.{contents_at}
use Rattle.routes.specs.declared.node.Node.TheVariants.{ANetwork}
use Rattle.area_routes.proofs.Neighbors.{one_network}
use Rattle.area_routes.proofs.graph_links.lists_at.Goals as goal

pub returns-in-None : goal.returns-in-None
returns-in-None c =
    let nodes = c.args.at.now.nodes.now in
    let place = c.args.place in
    let id = c.args.id in
    let none : (by : ℕ) → StandsAt nodes (ANetwork id by) place → ⊥ =
    subst (λ (o : Option ℕ). MatchOption o ((by : ℕ) → StandsAt nodes (ANetwork id by) place → ⊥)
    (λ by. StandsAt nodes (ANetwork id by) place)) c.in-None.is c.advertiser_at.ensures in
    ((λ t. absurd cc), (λ l. absurd (none l.0 l.1)))

pub returns-in-Some : goal.returns-in-Some
returns-in-Some c =
    let contents = contents_at c.args.at.now.moment c.args.at.now.db.now.present in
    let nodes = c.args.at.now.nodes.now in
    let place = c.args.place in
    let id = c.args.id in
    let by = c.in-Some.by in
    let here : StandsAt nodes (ANetwork id by) place =
    subst (λ (o : Option ℕ). MatchOption o ((its : ℕ) → StandsAt nodes (ANetwork id its) place → ⊥)
    (λ its. StandsAt nodes (ANetwork id its) place)) c.in-Some.is c.advertiser_at.ensures in (
      (λ t. (by, here, c.lists.ensures.0 t)),
      (λ l.
          let L : ℕ → Type 0 = λ n. ListsRouter contents id n c.args.router in
          c.lists.ensures.1 (subst L (one_network nodes id l.0 by place l.1 here) l.2)),
    )
