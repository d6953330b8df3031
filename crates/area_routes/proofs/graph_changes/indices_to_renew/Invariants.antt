use Rattle.std.proofs.Common.{◌≤◌}
use Rattle.area_routes.specs.GraphChanges.{IsCovered}
use Rattle.area_routes.proofs.Fronts.{OfFront}
use Rattle.routes.specs.Contents.{contents_at}
use Rattle.words.specs.declared.key.Key.{Key}
use Rattle.area_routes.proofs.graph_changes.indices_to_renew.Given as goal

abbrev pub invariant-loop-key : goal.invariant-loop-key
invariant-loop-key l =
    OfFront (λ (key : Key). key.ls_type ≤ 2
    → IsCovered (contents_at l.before l.at.db.now.committed)
    (contents_at l.at.moment l.at.db.now.present)
    l.at.nodes.now l.places.items key) l.keys l.key-index
