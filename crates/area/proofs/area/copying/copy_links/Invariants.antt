use Rattle.std.proofs.Common.{◌≡◌, map, take}
use Rattle.area.specs.Links.{committed_link, draft_of, present}
use Rattle.area.proofs.Taken.{emptied}
use Rattle.area.proofs.area.copying.copy_links.Given as goal

abbrev pub invariant-loop-i : goal.invariant-loop-i
invariant-loop-i l = record {
  shown : map present l.made.items ≡ take l.i (map present l.fn.links);
  fresh : map committed_link l.made.items ≡ take l.i (map present l.fn.links);
  empty : map draft_of l.made.items ≡ take l.i (map emptied l.fn.links);
}
