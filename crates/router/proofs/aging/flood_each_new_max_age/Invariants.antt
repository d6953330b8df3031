use Rattle.std.proofs.Common.{◌≡◌}
use Rattle.area.specs.Drafted.{drafts_with}
use Rattle.area.proofs.Acknowledged.{from}
use Rattle.router.specs.Aging.{flood_each_new_max_age}
use Rattle.router.proofs.aging.flood_each_new_max_age.Given as goal

abbrev pub invariant-loop-i : goal.invariant-loop-i
invariant-loop-i l = record {
  area : (flood_each_new_max_age l.before l.moment (from l.i l.keys) l.area.present).area
      ≡ (flood_each_new_max_age l.before l.moment l.keys l.fn.area.present).area;
  drafts : drafts_with (flood_each_new_max_age l.before l.moment (from l.i l.keys)
      l.area.present).sends
      l.area.present.links l.area.drafted
      ≡ drafts_with (flood_each_new_max_age l.before l.moment l.keys l.fn.area.present).sends
      l.fn.area.present.links l.fn.area.drafted;
  committed : l.area.committed ≡ l.fn.area.committed;
  router : l.area.router ≡ l.fn.area.router;
}
