use Rattle.std.proofs.Common.{sym, ◌∙◌}
use Rattle.std.proofs.lemmas.Bool.{false≢true}
use Rattle.candidates.specs.Graphs.{Adds, OfEach}
use Rattle.candidates.specs.Links.{IsCheapest, IsOwnTransit, IsToNetwork}
use Rattle.candidates.proofs.Steps.{network_at_root, network_elsewhere, on_ok}
use Rattle.candidates.proofs.links.add_network.Goals as goal

pub returns-then-is_root-clause-adds : goal.returns-then-is_root-clause-adds
returns-then-is_root-clause-adds c =
    let root = c.args.root.now in
    let entry = c.args.entry.now in
    let told_links = c.args.lsa.now.links in
    let old = c.args.links.now.items in
    let new = c.add_own_transits.new.links.items in
    on_ok c.add_own_transits.result (Adds
    (OfEach (IsOwnTransit root entry.id entry.place) told_links) old new)
    (Adds (IsToNetwork root c.args.entries.now c.args.router told_links entry) old new)
    (network_at_root root c.args.entries.now c.args.router told_links entry old new
    (c.is_root.ensures.0 c.if-is_root.true)) c.add_own_transits.ensures.adds

pub returns-clause-adds : goal.returns-clause-adds
returns-clause-adds c =
    let root = c.args.root.now in
    let entry = c.args.entry.now in
    let told_links = c.args.lsa.now.links in
    let old = c.args.links.now.items in
    let new = c.add_cheapest.new.links.items in
    on_ok c.add_cheapest.result (Adds (IsCheapest c.args.entries.now c.args.router entry) old new)
    (Adds (IsToNetwork root c.args.entries.now c.args.router told_links entry) old new)
    (network_elsewhere root c.args.entries.now c.args.router told_links entry old new
    (λ own. false≢true (sym c.if-is_root.false ∙ c.is_root.ensures.1 own)))
    c.add_cheapest.ensures.adds
