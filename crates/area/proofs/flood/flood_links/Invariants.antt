use Rattle.std.proofs.Common.{◌≡◌, map}
use Rattle.lsdb.specs.Copies.{lsa_now}
use Rattle.area.specs.Links.{committed_link, draft_of, present}
use Rattle.area.proofs.Flooded.{Floods}
use Rattle.area.proofs.flood.flood_links.Given as goal

abbrev pub invariant-loop-i : goal.invariant-loop-i
invariant-loop-i l = record {
  floods : Floods l.moment l.incoming (lsa_now l.moment l.copy) l.i l.links l.sent
      (map present l.fn.links) (map draft_of l.fn.links);
  committed : map committed_link l.links ≡ map committed_link l.fn.links;
}
