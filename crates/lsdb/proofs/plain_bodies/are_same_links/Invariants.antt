use Rattle.std.proofs.Common.{◌≡◌, ℕ, ◌<◌, get_or}
use Rattle.lsa.specs.declared.body.RouterLink.{RouterLink}
use Rattle.lsdb.proofs.plain_bodies.are_same_links.Given as goal

-- the links so far are the same
abbrev pub invariant-loop-at : goal.invariant-loop-at
invariant-loop-at l = (k : ℕ) (d : RouterLink) → k < l.at → get_or l.old k d ≡ get_or l.new k d
