use Rattle.std.proofs.Common.{List, [], length, arith, refl, sym, subst}
use Rattle.std.proofs.lemmas.Option.{slice_get_read}
use Rattle.routes.specs.Contents.{contents_at}
use Rattle.candidates.specs.Graphs.{Adds, StandsAt}
use Rattle.candidates.specs.declared.entry.AdvertisedLink.{AdvertisedLink}
use Rattle.candidates.proofs.GraphTold.{FromBelow, are_entries, below_more, below_none}
use Rattle.candidates.proofs.entries.entries_of.Goals as goal

pub loop-at-init : goal.loop-at-init
loop-at-init c =
    let contents = contents_at c.args.advertised.now.moment c.args.advertised.now.db.now.present in
    let P : List AdvertisedLink → Type 0 = λ es. Adds (FromBelow contents c.args.nodes.now 0) [] es
    in
    subst P (sym c.new-entries.ensures.items) (below_none contents c.args.nodes.now [])

pub loop-at-preserved : goal.loop-at-preserved
loop-at-preserved c =
    let nodes = c.args.nodes.now in
    let here : StandsAt nodes c.index-nodes-at.result c.loop-at.at =
    slice_get_read nodes (length nodes) c.loop-at.at c.index-nodes-at.result refl (omega arith)
    c.index-nodes-at.is in
    below_more (contents_at c.args.advertised.now.moment c.args.advertised.now.db.now.present) nodes
    c.loop-at.at
    c.index-nodes-at.result [] c.loop-at.entries.items c.add_in_order.new.entries.items here
    c.loop-at.invariant c.in_ok-add_in_order.ensures

pub returns : goal.returns
returns c =
    are_entries (contents_at c.args.advertised.now.moment c.args.advertised.now.db.now.present)
    c.args.nodes.now
    c.requires.nodes c.loop-at.at c.loop-at.entries.items c.sort.new.entries.items
    (omega (arith, c.loop-at-test.false)) c.loop-at.invariant c.in_ok-sort.ensures.same
    c.in_ok-sort.ensures.sorted
