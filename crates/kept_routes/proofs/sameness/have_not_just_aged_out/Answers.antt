use Rattle.std.proofs.Common.{arith, refl}
use Rattle.kept_routes.specs.Ages.{HasNotJustAgedOut}
use Rattle.kept_routes.proofs.Aging.{one_more}
use Rattle.kept_routes.proofs.sameness.have_not_just_aged_out.Goals as goal

pub loop-key-preserved : goal.loop-key-preserved
loop-key-preserved c =
    one_more (HasNotJustAgedOut c.args.last_type c.args.before c.args.moment c.args.db.now.present)
    c.args.keys.now c.loop-key.key-index c.key-item.result
    (omega arith) c.key-item.is (c.has_not_just_aged_out.ensures.0
    c.if-not-has_not_just_aged_out.false) c.loop-key.invariant

pub returns : goal.returns
returns c = (
  (λ t key among. c.loop-key.invariant key (among.0, omega (arith, among.1), among.2)),
  (λ all. refl),
)
