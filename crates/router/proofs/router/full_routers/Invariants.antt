use Rattle.std.proofs.Common.{◌≡◌, map, take}
use Rattle.area.specs.Links.{present}
use Rattle.router.specs.Described.{full_routers}
use Rattle.router.proofs.router.full_routers.Given as goal

abbrev pub invariant-loop-i : goal.invariant-loop-i
invariant-loop-i l = l.full.items ≡ full_routers (map present (take l.i l.links))
