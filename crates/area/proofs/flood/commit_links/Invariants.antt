use Rattle.std.proofs.Common.{◌≡◌, map}
use Rattle.area.specs.Links.{committed_link, draft_of, present}
use Rattle.area.proofs.Kept.{mixed}
use Rattle.area.proofs.Taken.{emptied}
use Rattle.area.proofs.flood.commit_links.Given as goal

abbrev pub invariant-loop-i : goal.invariant-loop-i
invariant-loop-i l = record {
  stays : map present l.links ≡ map present l.fn.links;
  comes : mixed committed_link present l.i l.links ≡ map present l.fn.links;
  rest : mixed draft_of emptied l.i l.links ≡ map emptied l.fn.links;
}
