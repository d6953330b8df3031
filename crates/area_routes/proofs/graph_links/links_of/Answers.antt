use Rattle.std.proofs.Common.{◌≡◌, List, Some, None, sym, ◌∙◌, ap, subst}
use Rattle.std.specs.Option.{option_copied}
use Rattle.routes.specs.Contents.{contents_at}
use Rattle.routes.specs.declared.graph.VertexLink.{VertexLink}
use Rattle.routes.specs.declared.node.Node.{Node}
use Rattle.candidates.proofs.Parts.{no_network, no_router}
use Rattle.candidates.specs.Graphs.{Adds, AreLinksFrom, OfEach}
use Rattle.candidates.specs.Nodes.{network_lsa, router_lsa}
use Rattle.area_routes.specs.GraphLinks.{IsAttached, IsToEnd}
use Rattle.area_routes.proofs.Neighbors.{network_links, router_links}
use Rattle.area_routes.proofs.graph_links.links_of.Goals as goal
use Rattle.area_routes.proofs.graph_links.links_of.Goals.{in-ARouter+in-Some+in_ok-add_all-in-ARouter}
use Rattle.area_routes.proofs.graph_links.links_of.Goals.{in-ARouter+in_default}
use Rattle.area_routes.proofs.graph_links.links_of.Goals.{in-ANetwork+in-Some-network_lsa+in_ok-add_attached-in-ANetwork}
use Rattle.area_routes.proofs.graph_links.links_of.Goals.{in-ANetwork+in_default-network_lsa}

pub returns-clause-links : goal.returns-clause-links
returns-clause-links c =
    let contents = contents_at c.args.at.now.moment c.args.at.now.db.now.present in
    let root = c.args.root.now in
    let nodes = c.args.at.now.nodes.now in
    let first = c.new-links.result.items in
    elim c.match-node.branch [
      | in-ARouter+in-Some+in_ok-add_all-in-ARouter w ↦
          let router = w.in-ARouter.router in
          let new = w.add_all.new.links.items in
          let lsa = w.in-Some.lsa.now in
          let R : Node → Type 0 = λ n. AreLinksFrom contents root nodes n new in
          let B : List VertexLink → Type 0 = λ old. Adds
          (OfEach (IsToEnd contents root nodes router) lsa.links) old new in
          let is : router_lsa contents router ≡ Some lsa =
          sym w.router_lsa.ensures ∙ ap option_copied w.in-Some.is in
          rw w.links-is
          (subst R (sym w.in-ARouter.is)
          (router_links contents root nodes router lsa is new
          (subst B c.new-links.ensures.items w.in_ok-add_all-in-ARouter.ensures.adds)))
      | in-ARouter+in_default w ↦
          let router = w.in-ARouter.router in
          let R : Node → Type 0 = λ n. AreLinksFrom contents root nodes n first in
          let is : router_lsa contents router ≡ None =
          sym w.router_lsa.ensures ∙ ap option_copied w.in_default.is in
          rw w.links-is (subst R (sym w.in-ARouter.is)
          (no_router contents root nodes router first is c.new-links.ensures.items))
      | in-ANetwork+in-Some-network_lsa+in_ok-add_attached-in-ANetwork w ↦
          let id = w.in-ANetwork.id in
          let by = w.in-ANetwork.by in
          let new = w.add_attached.new.links.items in
          let lsa = w.in-Some-network_lsa.lsa.now in
          let R : Node → Type 0 = λ n. AreLinksFrom contents root nodes n new in
          let B : List VertexLink → Type 0 = λ old. Adds
          (OfEach (IsAttached contents nodes id) lsa.attached) old new in
          let is : network_lsa contents id by ≡ Some lsa =
          sym w.network_lsa.ensures ∙ ap option_copied w.in-Some-network_lsa.is in
          rw w.links-is (subst R (sym w.in-ANetwork.is)
          (network_links contents root nodes id by lsa is new
          (subst B c.new-links.ensures.items w.in_ok-add_attached-in-ANetwork.ensures.adds)))
      | in-ANetwork+in_default-network_lsa w ↦
          let id = w.in-ANetwork.id in
          let by = w.in-ANetwork.by in
          let R : Node → Type 0 = λ n. AreLinksFrom contents root nodes n first in
          let is : network_lsa contents id by ≡ None =
          sym w.network_lsa.ensures ∙ ap option_copied w.in_default-network_lsa.is in
          rw w.links-is (subst R (sym w.in-ANetwork.is)
          (no_network contents root nodes id by first is c.new-links.ensures.items))
    ]
