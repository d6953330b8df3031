use Rattle.std.proofs.Common.{◌≡◌, ◌++◌, map}
use Rattle.area.specs.Links.{committed_link, draft_of, present}
use Rattle.area.proofs.Kept.{mixed}
use Rattle.area.proofs.Taken.{drafts_from, emptied}
use Rattle.area.proofs.flood.take_drafts.Given as goal

abbrev pub invariant-loop-i : goal.invariant-loop-i
invariant-loop-i l = record {
  taken : l.drafts.items ++ drafts_from l.i l.links ≡ map draft_of l.fn.links;
  shown : map present l.links ≡ map present l.fn.links;
  stays : map committed_link l.links ≡ map committed_link l.fn.links;
  rest : mixed draft_of emptied l.i l.links ≡ map emptied l.fn.links;
}
