use Rattle.std.proofs.Common.{[]}
use Rattle.routes.specs.Contents.{contents_at}
use Rattle.candidates.specs.Graphs.{Adds}
use Rattle.candidates.proofs.GraphTold.{FromBelow}
use Rattle.candidates.proofs.entries.entries_of.Given as goal

abbrev pub invariant-loop-at : goal.invariant-loop-at
invariant-loop-at l = Adds (FromBelow (contents_at l.advertised.moment l.advertised.db.now.present)
    l.nodes l.at) []
    l.entries.items
