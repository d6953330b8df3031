use Rattle.std.proofs.Common.{◌≡◌, ℕ, Some, sym, ◌∙◌, ap, subst}
use Rattle.std.specs.Option.{option_copied}
use Rattle.lsa.specs.declared.body.RouterLink.{RouterLink}
use Rattle.routes.specs.Contents.{contents_at}
use Rattle.routes.specs.declared.node.Node.{Node}
use Rattle.candidates.specs.Entries.{TellsOf, attached_entry, entry_of}
use Rattle.candidates.specs.Graphs.{Adds, OfEach}
use Rattle.candidates.specs.Nodes.{network_lsa, router_lsa}
use Rattle.candidates.specs.declared.entry.AdvertisedLink.{AdvertisedLink}
use Rattle.candidates.proofs.Steps.{on_ok}
use Rattle.candidates.proofs.GraphTold.{network_tells, router_tells}
use Rattle.candidates.proofs.entries.add_node.Goals as goal

pub returns-in-Some : goal.returns-in-Some
returns-in-Some c =
    let contents = contents_at c.args.advertised.now.moment c.args.advertised.now.db.now.present in
    let router = c.in-ARouter.router in
    let lsa = c.in-Some.lsa.now in
    let old = c.args.entries.now.items in
    let new = c.add_links.new.entries.items in
    let is : router_lsa contents router ≡ Some lsa =
    sym c.router_lsa.ensures ∙ ap option_copied c.in-Some.is in
    let P : Node → Type 0 = λ n. Adds (TellsOf contents n c.args.place) old new in
    on_ok c.add_links.result (Adds (OfEach
    (λ (link : RouterLink) (entry : AdvertisedLink). entry_of router link ≡ Some entry) lsa.links)
    old new)
    (Adds (TellsOf contents c.args.node.now c.args.place) old new)
    (λ a. subst P (sym c.in-ARouter.is) (router_tells contents c.args.place router lsa old new is
    a))
    c.add_links.ensures

pub returns-in-Some-network_lsa : goal.returns-in-Some-network_lsa
returns-in-Some-network_lsa c =
    let contents = contents_at c.args.advertised.now.moment c.args.advertised.now.db.now.present in
    let id = c.in-ANetwork.id in
    let by = c.in-ANetwork.by in
    let lsa = c.in-Some-network_lsa.lsa.now in
    let old = c.args.entries.now.items in
    let new = c.add_list.new.entries.items in
    let is : network_lsa contents id by ≡ Some lsa =
    sym c.network_lsa.ensures ∙ ap option_copied c.in-Some-network_lsa.is in
    let P : Node → Type 0 = λ n. Adds (TellsOf contents n c.args.place) old new in
    on_ok c.add_list.result (Adds (OfEach
    (λ (router : ℕ) (entry : AdvertisedLink). entry ≡ attached_entry id c.args.place router)
    lsa.attached) old new) (Adds (TellsOf contents c.args.node.now c.args.place) old new)
    (λ a. subst P (sym c.in-ANetwork.is) (network_tells contents c.args.place id by lsa old new is
    a))
    c.add_list.ensures
