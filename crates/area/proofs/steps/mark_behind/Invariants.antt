use Rattle.std.proofs.Common.{◌≡◌, drop, map}
use Rattle.area.specs.Steps.{key_of_update, mark_each}
use Rattle.area.proofs.steps.mark_behind.Given as goal

abbrev pub invariant-loop-i : goal.invariant-loop-i
invariant-loop-i l = record {
  marks : mark_each l.moment l.database.present (map key_of_update (drop l.i l.updates))
      ≡ mark_each l.moment l.fn.database.present (map key_of_update (drop l.count l.updates));
  committed : l.database.committed ≡ l.fn.database.committed;
  router : l.database.router ≡ l.fn.database.router;
}
