use Rattle.std.proofs.Common.{◌≡◌, length, map}
use Rattle.area.specs.Links.{committed_link, draft_of, present}
use Rattle.area.proofs.Kept.{mixed}
use Rattle.area.proofs.area.Area.change_links.Given as goal

abbrev pub invariant-loop-i : goal.invariant-loop-i
invariant-loop-i g l = record {
  count : length l.self-inside.links.items ≡ length l.initial.self-inside.links.items;
  stays : map committed_link l.self-inside.links.items
      ≡ map committed_link l.initial.self-inside.links.items;
  drafts : map draft_of l.self-inside.links.items
      ≡ map draft_of l.initial.self-inside.links.items;
  comes : mixed present (λ n. g.C.LinkChange.after l.change (present n)) l.i
      l.self-inside.links.items
      ≡ map (g.C.LinkChange.after l.change) (map present l.initial.self-inside.links.items);
  database : l.self-inside.database ≡ l.initial.self-inside.database;
}
