use Rattle.std.proofs.Common.{◌≡◌, ℕ, map}
use Rattle.std.specs.FinMap as finite
use Rattle.adjacency.specs.Contents.{Acknowledges}
use Rattle.adjacency.specs.Drafts.{drafting}
use Rattle.area.proofs.Acknowledged.{named}
use Rattle.area.proofs.link.acknowledgments.draft_headers.Given as goal

-- continuing from here gives the whole result
abbrev pub invariant-loop-header : goal.invariant-loop-header
invariant-loop-header l =
    (delay : ℕ) → drafting delay (named l.header-iterator) l.draft
    ≡ drafting delay (map Acknowledges (finite.values l.headers.present)) l.fn.draft
