use Rattle.std.proofs.Common.{◌≡◌, length}
use Rattle.router.proofs.Texts.{Going}
use Rattle.router.proofs.updates.receive_lsas.Given as goal

abbrev pub invariant-loop-i : goal.invariant-loop-i
invariant-loop-i l = record {
  goes : Going l.moment l.interface l.lsas l.fn.router l.i l.router;
  links : length l.router.present.area.links ≡ length l.fn.router.present.area.links;
  committed : l.router.committed ≡ l.fn.router.committed;
}
