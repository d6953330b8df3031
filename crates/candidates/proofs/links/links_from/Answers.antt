use Rattle.std.proofs.Common.{◌≡◌, List, Some, None, sym, ◌∙◌, ap, subst}
use Rattle.std.specs.Option.{option_copied}
use Rattle.routes.specs.Contents.{contents_at}
use Rattle.routes.specs.declared.graph.VertexLink.{VertexLink}
use Rattle.routes.specs.declared.node.Node.{Node}
use Rattle.candidates.specs.Graphs.{Adds, AreLinksFrom, OfEach}
use Rattle.candidates.specs.Links.{IsToListed, IsToRouter}
use Rattle.candidates.specs.Nodes.{network_lsa, router_lsa}
use Rattle.candidates.proofs.Parts.{network_links, no_network, no_router, router_links}
use Rattle.candidates.proofs.GraphTold.{ordered}
use Rattle.candidates.proofs.links.links_from.Goals as goal
use Rattle.candidates.proofs.links.links_from.Goals.{in-ARouter+in-Some+in_ok-add_routers-in-ARouter+in_ok-add_networks-in-ARouter}
use Rattle.candidates.proofs.links.links_from.Goals.{in-ARouter+in_default}
use Rattle.candidates.proofs.links.links_from.Goals.{in-ANetwork+in-Some-network_lsa+in_ok-add_listed-in-ANetwork}
use Rattle.candidates.proofs.links.links_from.Goals.{in-ANetwork+in_default-network_lsa}

pub returns-clause-links : goal.returns-clause-links
returns-clause-links c =
    let contents = contents_at c.args.advertised.now.moment c.args.advertised.now.db.now.present in
    let root = c.args.root.now in
    let nodes = c.args.area.now.nodes.now in
    let entries = c.args.area.now.entries.now in
    let advertised = c.requires.area.are_entries in
    let first = c.new-links.result.items in
    elim c.match-from.branch [
      | in-ARouter+in-Some+in_ok-add_routers-in-ARouter+in_ok-add_networks-in-ARouter w ↦
          let router = w.in-ARouter.router in
          let middle = w.add_routers.new.links.items in
          let new = w.add_networks.new.links.items in
          let lsa = w.in-Some.lsa.now in
          let R : Node → Type 0 = λ n. AreLinksFrom contents root nodes n new in
          let B : List VertexLink → Type 0 = λ old. Adds
          (OfEach (IsToRouter root nodes entries router) lsa.links) old middle in
          let is : router_lsa contents router ≡ Some lsa =
          sym w.router_lsa.ensures ∙ ap option_copied w.in-Some.is in
          rw w.links-is
          (subst R (sym w.in-ARouter.is)
          (router_links contents root nodes entries advertised router lsa is middle new
          (subst B c.new-links.ensures.items w.in_ok-add_routers-in-ARouter.ensures.adds)
          w.in_ok-add_networks-in-ARouter.ensures.adds))
      | in-ARouter+in_default w ↦
          let router = w.in-ARouter.router in
          let R : Node → Type 0 = λ n. AreLinksFrom contents root nodes n first in
          let is : router_lsa contents router ≡ None =
          sym w.router_lsa.ensures ∙ ap option_copied w.in_default.is in
          rw w.links-is (subst R (sym w.in-ARouter.is)
          (no_router contents root nodes router first is c.new-links.ensures.items))
      | in-ANetwork+in-Some-network_lsa+in_ok-add_listed-in-ANetwork w ↦
          let id = w.in-ANetwork.id in
          let by = w.in-ANetwork.by in
          let new = w.add_listed.new.links.items in
          let lsa = w.in-Some-network_lsa.lsa.now in
          let R : Node → Type 0 = λ n. AreLinksFrom contents root nodes n new in
          let B : List VertexLink → Type 0 = λ old. Adds
          (OfEach (IsToListed nodes entries id) lsa.attached) old new in
          let is : network_lsa contents id by ≡ Some lsa =
          sym w.network_lsa.ensures ∙ ap option_copied w.in-Some-network_lsa.is in
          rw w.links-is (subst R (sym w.in-ANetwork.is)
          (network_links contents root nodes entries advertised id by lsa is new
          (subst B c.new-links.ensures.items w.in_ok-add_listed-in-ANetwork.ensures.adds)))
      | in-ANetwork+in_default-network_lsa w ↦
          let id = w.in-ANetwork.id in
          let by = w.in-ANetwork.by in
          let R : Node → Type 0 = λ n. AreLinksFrom contents root nodes n first in
          let is : network_lsa contents id by ≡ None =
          sym w.network_lsa.ensures ∙ ap option_copied w.in_default-network_lsa.is in
          rw w.links-is (subst R (sym w.in-ANetwork.is)
          (no_network contents root nodes id by first is c.new-links.ensures.items))
    ]

pub add_routers-requires-clause-ordered : goal.add_routers-requires-clause-ordered
add_routers-requires-clause-ordered c =
    ordered (contents_at c.args.advertised.now.moment c.args.advertised.now.db.now.present)
    c.args.area.now.nodes.now c.args.area.now.entries.now c.requires.area.are_entries
    c.requires.area.are_nodes

pub add_listed-requires : goal.add_listed-requires
add_listed-requires c = ordered (contents_at c.args.advertised.now.moment
    c.args.advertised.now.db.now.present)
    c.args.area.now.nodes.now c.args.area.now.entries.now c.requires.area.are_entries
    c.requires.area.are_nodes

pub router_lsa-requires : goal.router_lsa-requires
router_lsa-requires c = c.requires.area.are_bodies

pub network_lsa-requires : goal.network_lsa-requires
network_lsa-requires c = c.requires.area.are_bodies
