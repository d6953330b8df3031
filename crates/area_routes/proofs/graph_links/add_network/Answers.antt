use Rattle.std.proofs.Common.{◌≡◌, ℕ, true, false, sym, ◌∙◌, subst, arith}
use Rattle.std.proofs.lemmas.Bool.{false≢true}
use Rattle.std.proofs.lemmas.Grind.{common_steps}
use Rattle.candidates.proofs.Steps.{on_ok}
use Rattle.candidates.specs.Entries.{IsListedAt}
use Rattle.candidates.specs.Graphs.{Adds}
use Rattle.candidates.specs.Links.{IsExitTo}
use Rattle.routes.specs.Contents.{contents_at}
use Rattle.area_routes.specs.GraphLinks.{IsToNetworkAt}
use Rattle.area_routes.proofs.Neighbors.{no_network, to_network}
use Rattle.area_routes.proofs.graph_links.add_network.Goals as goal

pub returns-then-not-lists_at-clause-adds : goal.returns-then-not-lists_at-clause-adds
returns-then-not-lists_at-clause-adds c =
    let contents = contents_at c.args.at.now.moment c.args.at.now.db.now.present in
    let nodes = c.args.at.now.nodes.now in
    let L : ℕ → Type 0 = λ id. IsListedAt contents nodes c.args.router id c.args.place in
    let away : c.lists_at.result ≡ false = grind (arith, common_steps) in
    no_network contents c.args.root.now nodes c.args.router c.args.advertised.now c.args.place
    c.args.links.now.items
    (λ l. false≢true (sym away ∙ c.lists_at.ensures.1 (subst L (sym c.new.ensures) l)))

pub returns-clause-adds : goal.returns-clause-adds
returns-clause-adds c =
    let contents = contents_at c.args.at.now.moment c.args.at.now.db.now.present in
    let root = c.args.root.now in
    let nodes = c.args.at.now.nodes.now in
    let router = c.args.router in
    let advertised = c.args.advertised.now in
    let place = c.args.place in
    let old = c.args.links.now.items in
    let new = c.add_exits.new.links.items in
    let L : ℕ → Type 0 = λ id. IsListedAt contents nodes router id place in
    let here : c.lists_at.result ≡ true = grind (arith, common_steps) in
    on_ok c.add_exits.result (Adds (IsExitTo root router place advertised.metric
    advertised.link_data) old new)
    (Adds (IsToNetworkAt contents root nodes router advertised place) old new)
    (to_network contents root nodes router advertised place old new c.requires.is_kind
    c.requires.counts
    (subst L c.new.ensures (c.lists_at.ensures.0 here))) c.add_exits.ensures.adds
