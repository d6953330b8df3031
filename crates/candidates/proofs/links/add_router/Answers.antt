use Rattle.std.proofs.Common.{None, Some}
use Rattle.candidates.specs.Graphs.{Adds}
use Rattle.candidates.specs.Links.{IsExitTo, IsNeighborAt, IsToRouter}
use Rattle.candidates.specs.declared.entry.EntryKind.TheVariants.{PointToPoint}
use Rattle.candidates.proofs.Steps.{no_neighbor, on_ok, same_neighbor, to_neighbor}
use Rattle.candidates.proofs.links.add_router.Goals as goal

pub returns-in-None-clause-adds : goal.returns-in-None-clause-adds
returns-in-None-clause-adds c =
    let nodes = c.args.area.now.nodes.now in
    let entries = c.args.area.now.entries.now in
    let advertised = c.args.advertised.now in
    let none : IsNeighborAt nodes entries advertised.link_id PointToPoint c.args.router None =
    same_neighbor nodes entries PointToPoint c.new-far.result advertised.link_id c.number.result
    c.args.router c.index_if_linking_back.result None c.new-far.ensures c.number.ensures
    c.in-None.is
    c.index_if_linking_back.ensures in
    no_neighbor c.args.root.now nodes entries c.args.router advertised c.args.links.now.items none

pub returns-in-Some-clause-adds : goal.returns-in-Some-clause-adds
returns-in-Some-clause-adds c =
    let root = c.args.root.now in
    let nodes = c.args.area.now.nodes.now in
    let entries = c.args.area.now.entries.now in
    let router = c.args.router in
    let advertised = c.args.advertised.now in
    let to = c.in-Some.to in
    let old = c.args.links.now.items in
    let new = c.add_exits.new.links.items in
    let at : IsNeighborAt nodes entries advertised.link_id PointToPoint router (Some to) =
    same_neighbor nodes entries PointToPoint c.new-far.result advertised.link_id c.number.result
    router
    c.index_if_linking_back.result (Some to) c.new-far.ensures c.number.ensures c.in-Some.is
    c.index_if_linking_back.ensures in
    on_ok c.add_exits.result (Adds (IsExitTo root router to advertised.metric advertised.link_data)
    old new)
    (Adds (IsToRouter root nodes entries router advertised) old new)
    (to_neighbor root nodes entries router advertised to old new c.requires.ordered.ascend
    c.requires.is_kind c.requires.counts at) c.add_exits.ensures.adds
