use Rattle.std.proofs.Common.{take}
use Rattle.area_routes.proofs.Stay.{AreEither}
use Rattle.routes.specs.Contents.{contents_at}
use Rattle.area_routes.proofs.graph_updates.renewed.Given as goal

abbrev pub invariant-loop-place : goal.invariant-loop-place
invariant-loop-place l =
    AreEither (contents_at l.fn.before l.fn.db.committed) (contents_at l.fn.moment l.fn.db.present)
    l.fn.graph.root l.fn.graph.nodes.items (take l.place-index l.places) l.vertices.items
