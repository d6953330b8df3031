use Rattle.std.proofs.Common.{arith, refl}
use Rattle.kept_routes.specs.Externals.{IsOldOrLeftOut}
use Rattle.kept_routes.proofs.Aging.{one_more}
use Rattle.kept_routes.proofs.externals.have_not_just_aged_out_or_are_left_out.Goals as goal

pub loop-key-preserved : goal.loop-key-preserved
loop-key-preserved c =
    let rule = c.args.rule.now in
    one_more (IsOldOrLeftOut c.args.before rule.moment rule.db.now.present rule.walk.now)
    c.args.keys.now c.loop-key.key-index c.key-item.result
    (omega arith) c.key-item.is (c.in_ok-has_not_just_aged_out_or_is_left_out.ensures.0
    c.if-not-branch.false)
    c.loop-key.invariant

pub returns : goal.returns
returns c = (
  (λ t key among. c.loop-key.invariant key (among.0, omega (arith, among.1), among.2)),
  (λ all. refl),
)
