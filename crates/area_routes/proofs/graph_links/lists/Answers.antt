use Rattle.std.proofs.Common.{◌≡◌, None, Some, sym, ◌∙◌, ap}
use Rattle.std.specs.Option.{option_copied}
use Rattle.candidates.specs.Nodes.{network_lsa}
use Rattle.routes.specs.Contents.{contents_at}
use Rattle.area_routes.proofs.Neighbors.{is_listed, lists_is, never_lists}
use Rattle.area_routes.proofs.graph_links.lists.Goals as goal

pub returns-in-None : goal.returns-in-None
returns-in-None c =
    let contents = contents_at c.args.at.now.moment c.args.at.now.db.now.present in
    let id = c.args.id in
    let by = c.args.by in
    let is : network_lsa contents id by ≡ None =
    sym c.network_lsa.ensures ∙ ap option_copied c.in-None.is in
    ((λ t. absurd cc), (λ l. absurd (never_lists contents id by c.args.router is l)))

pub returns-in-Some : goal.returns-in-Some
returns-in-Some c =
    let contents = contents_at c.args.at.now.moment c.args.at.now.db.now.present in
    let id = c.args.id in
    let by = c.args.by in
    let lsa = c.in-Some.lsa.now in
    let is : network_lsa contents id by ≡ Some lsa =
    sym c.network_lsa.ensures ∙ ap option_copied c.in-Some.is in (
      (λ t. lists_is contents id by c.args.router lsa is (c.is_listed.ensures.0 t)),
      (λ l. c.is_listed.ensures.1 (is_listed contents id by c.args.router lsa is l)),
    )
