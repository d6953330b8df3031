use Rattle.std.proofs.Common.{List, [], subst}
use Rattle.std.specs.List.{Contains}
use Rattle.routes.specs.Contents.{contents_at}
use Rattle.candidates.specs.Entries.{TellsOf}
use Rattle.candidates.specs.Graphs.{Adds}
use Rattle.candidates.specs.declared.entry.AdvertisedLink.{AdvertisedLink}
use Rattle.candidates.proofs.Lists.{adds_moved, adds_reordered}
use Rattle.candidates.proofs.entries.add_in_order.Goals as goal

pub returns : goal.returns
returns c =
    let P : AdvertisedLink → Type 0 =
    TellsOf (contents_at c.args.advertised.now.moment c.args.advertised.now.db.now.present)
    c.args.node.now c.args.place in
    let old = c.args.entries.now.items in
    let new = c.push_all.new.entries.items in
    let N : List AdvertisedLink → Type 0 = λ first. Adds P first c.add_node.new.entries.items in
    let own : Adds P [] c.sort_own.new.own.items =
    adds_reordered P [] c.add_node.new.entries.items c.sort_own.new.own.items c.sort_own.ensures
    (subst N c.clear.ensures.items c.in_ok-add_node.ensures) in
    let M : List AdvertisedLink → Type 0 =
    λ list. Adds (λ (entry : AdvertisedLink). Contains list entry) old new in
    adds_moved P c.sort_own.new.own.items old new own
    (subst M c.deref.ensures.value c.in_ok-push_all.ensures)
