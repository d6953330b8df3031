use Rattle.std.proofs.Common.{◌≡◌}
use Rattle.area.proofs.Acknowledged.{from}
use Rattle.router.specs.Aging.{without_each}
use Rattle.router.proofs.aging.remove_each.Given as goal

abbrev pub invariant-loop-i : goal.invariant-loop-i
invariant-loop-i l = record {
  links : l.area.present.links ≡ l.fn.area.present.links;
  leaves : without_each l.fn.area.present.links l.area.present.database (from l.i l.keys)
      ≡ without_each l.fn.area.present.links l.fn.area.present.database l.keys;
  drafts : l.area.drafted ≡ l.fn.area.drafted;
  committed : l.area.committed ≡ l.fn.area.committed;
  router : l.area.router ≡ l.fn.area.router;
}
