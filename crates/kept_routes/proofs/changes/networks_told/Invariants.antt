use Rattle.std.proofs.Common.{take}
use Rattle.routes.specs.Contents.{contents_at}
use Rattle.kept_routes.specs.Changes.{AreAllAdvertised}
use Rattle.kept_routes.proofs.changes.networks_told.Given as goal

abbrev pub invariant-loop-key : goal.invariant-loop-key
invariant-loop-key l = AreAllAdvertised (contents_at l.before l.db.committed)
    (contents_at l.moment l.db.present)
    (take l.key-index l.keys) l.prefixes.items
