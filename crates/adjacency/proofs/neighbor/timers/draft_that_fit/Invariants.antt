use Rattle.std.proofs.Common.{◌≡◌, map}
use Rattle.std.specs.FinMap as finite
use Rattle.adjacency.specs.Contents.{Updates}
use Rattle.adjacency.specs.Drafts.{drafting}
use Rattle.adjacency.specs.Retransmissions.{that_fit}
use Rattle.adjacency.specs.Steps.{lsas_of}
use Rattle.adjacency.proofs.neighbor.timers.draft_that_fit.Given as goal

-- continuing from here gives the whole result
abbrev pub invariant-loop-key : goal.invariant-loop-key
invariant-loop-key l =
    drafting l.delay (map Updates (that_fit l.used
    (lsas_of l.moment l.database.present l.key-iterator))) l.draft
    ≡ drafting l.delay (map Updates (that_fit 28
    (lsas_of l.moment l.database.present (finite.keys l.entries.present)))) l.fn.draft
