use Rattle.std.proofs.Common.{◌≡◌, ◌++◌, drop, map}
use Rattle.area.specs.Links.{present}
use Rattle.router.specs.Described.{described_links, interfaces}
use Rattle.router.proofs.router.described_body.Given as goal

abbrev pub invariant-loop-i : goal.invariant-loop-i
invariant-loop-i l = l.router_links.items
    ++ described_links (drop l.i (interfaces (map present l.links)))
    (drop l.i l.full) ≡ described_links (interfaces (map present l.links)) l.full
