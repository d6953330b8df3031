use Rattle.std.proofs.Common.{◌≡◌, None, Some, ℕ, slice_get, sym, ◌∙◌, ap}
use Rattle.std.specs.Prelude.{IfNone, IfSome}
use Rattle.std.specs.Option.{option_copied}
use Rattle.candidates.proofs.GraphWhole.{placed}
use Rattle.candidates.specs.Nodes.{router_lsa}
use Rattle.routes.specs.Links.{LinksBack}
use Rattle.routes.specs.Contents.{contents_at}
use Rattle.routes.specs.declared.node.Node.{Node}
use Rattle.routes.specs.declared.node.Node.TheVariants.{ARouter}
use Rattle.area_routes.specs.GraphLinks.{IsNeighbor}
use Rattle.area_routes.proofs.Neighbors.{back_is, its}
use Rattle.area_routes.proofs.graph_links.index_if_linking_back.Goals as goal

pub returns-then-has_link_to : goal.returns-then-has_link_to
returns-then-has_link_to c =
    let contents = contents_at c.args.at.now.moment c.args.at.now.db.now.present in
    let nodes = c.args.at.now.nodes.now in
    let far = c.args.far in
    let kind = c.args.kind in
    let id = c.args.id in
    let lsa = c.in-Some.lsa.now in
    let is : router_lsa contents far ≡ Some lsa =
    sym c.router_lsa.ensures ∙ ap option_copied c.in-Some.is in
    let back : LinksBack contents far kind id =
    back_is contents far kind id lsa is (c.has_link_to.ensures.0 c.if-has_link_to.true) in
    let N : Node → Type 0 = λ node. (at : ℕ) → slice_get nodes at ≡ Some node → ⊥ in
    let stands = placed nodes (ARouter far)
    ((c.requires.each (ARouter far)).1 (lsa, its contents far lsa is)) in
    elim c.find.result as (λ o. IfSome o (λ at. slice_get nodes at ≡ Some (ARouter far))
    → IfNone o (N (ARouter far)) → IsNeighbor contents nodes far kind id o) [
      | None ↦ λ found missing b. missing stands.0 stands.1
      | Some at ↦ λ found missing. (found, back)
    ] c.find.ensures.found c.find.ensures.missing
