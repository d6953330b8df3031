use Rattle.std.proofs.Common.{◌≡◌, drop, map}
use Rattle.area.specs.Links.{draft_of}
use Rattle.area.specs.Steps.{keys_behind, mark_each}
use Rattle.area.proofs.steps.mark_all.Given as goal

abbrev pub invariant-loop-i : goal.invariant-loop-i
invariant-loop-i l = record {
  marks : mark_each l.moment l.database.present
      (keys_behind (drop l.i l.counts) (drop l.i (map draft_of l.links)))
      ≡ mark_each l.moment l.fn.database.present (keys_behind l.counts (map draft_of l.links));
  committed : l.database.committed ≡ l.fn.database.committed;
  router : l.database.router ≡ l.fn.database.router;
}
