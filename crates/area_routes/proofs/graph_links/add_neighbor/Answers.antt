use Rattle.std.proofs.Common.{Some, Option, ℕ, subst}
use Rattle.candidates.proofs.Steps.{on_ok}
use Rattle.candidates.specs.Graphs.{Adds}
use Rattle.candidates.specs.Links.{IsExitTo}
use Rattle.lsa.specs.declared.body.LinkKind.TheVariants.{PointToPoint}
use Rattle.routes.specs.Contents.{contents_at}
use Rattle.area_routes.specs.GraphLinks.{IsNeighbor, IsToNeighbor}
use Rattle.area_routes.proofs.Neighbors.{to_neighbor}
use Rattle.area_routes.proofs.graph_links.add_neighbor.Goals as goal

pub returns-in-Some-clause-adds : goal.returns-in-Some-clause-adds
returns-in-Some-clause-adds c =
    let contents = contents_at c.args.at.now.moment c.args.at.now.db.now.present in
    let root = c.args.root.now in
    let nodes = c.args.at.now.nodes.now in
    let router = c.args.router in
    let advertised = c.args.advertised.now in
    let to = c.in-Some.to in
    let old = c.args.links.now.items in
    let new = c.add_exits.new.links.items in
    let F : ℕ → ℕ → Option ℕ → Type 0 = λ far id o. IsNeighbor contents nodes far PointToPoint id o
    in
    let at : IsNeighbor contents nodes advertised.link_id PointToPoint router (Some to) =
    subst (λ far. F far router (Some to)) c.new-far.ensures
    (subst (λ id. F c.new-far.result id (Some to)) c.number.ensures
    (subst (F c.new-far.result c.number.result) c.in-Some.is c.index_if_linking_back.ensures)) in
    on_ok c.add_exits.result (Adds (IsExitTo root router to advertised.metric advertised.link_data)
    old new)
    (Adds (IsToNeighbor contents root nodes router advertised) old new)
    (to_neighbor contents root nodes router advertised to old new c.requires.nodes.ascend
    c.requires.is_kind
    c.requires.counts at) c.add_exits.ensures.adds
