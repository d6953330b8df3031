use Rattle.std.proofs.Common.{◌≡◌, map, take}
use Rattle.adjacency.specs.Contents.{Updates}
use Rattle.adjacency.specs.Drafts.{drafting}
use Rattle.adjacency.specs.Steps.{lsas_of}
use Rattle.area.proofs.neighbor_slot.requests.draft_copies.Given as goal

abbrev pub invariant-loop-key : goal.invariant-loop-key
invariant-loop-key l = l.draft ≡ drafting l.delay
    (map Updates (lsas_of l.moment l.database.present (take l.key-index l.keys))) l.fn.draft
