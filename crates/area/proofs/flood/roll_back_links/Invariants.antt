use Rattle.std.proofs.Common.{◌≡◌, map}
use Rattle.area.specs.Links.{committed_link, draft_of, present}
use Rattle.area.proofs.Kept.{mixed}
use Rattle.area.proofs.Taken.{emptied}
use Rattle.area.proofs.flood.roll_back_links.Given as goal

abbrev pub invariant-loop-i : goal.invariant-loop-i
invariant-loop-i l = record {
  stays : map committed_link l.links ≡ map committed_link l.fn.links;
  comes : mixed present committed_link l.i l.links ≡ map committed_link l.fn.links;
  rest : mixed draft_of emptied l.i l.links ≡ map emptied l.fn.links;
}
