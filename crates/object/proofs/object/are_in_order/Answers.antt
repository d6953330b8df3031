use Rattle.std.proofs.Common.{refl}
use Rattle.object.proofs.Orders.{leaves_all, leaves_more, leaves_wrong, leaves_none}
use Rattle.object.proofs.object.are_in_order.Goals as goal

pub loop-statement-init : goal.loop-statement-init
loop-statement-init c = leaves_all c.args.slots c.args.statements.now

pub returns-then-slot-least : goal.returns-then-slot-least
returns-then-slot-least c = (
  λ h. absurd (cc h),
  λ whole. absurd
      (leaves_wrong _ _ _ _ c.statement-item.result _ c.loop-statement.invariant
      c.loop-statement-test.true c.statement-item.is c.slot-slot.ensures.value
      c.then-slot-least.either whole),
)

pub loop-statement-preserved : goal.loop-statement-preserved
loop-statement-preserved c =
    leaves_more _ _ _ _ c.statement-item.result _ c.loop-statement.invariant
    c.loop-statement-test.true c.statement-item.is c.slot-slot.ensures.is_statement
    c.slot-slot.ensures.value c.if-slot-least.false c.if-slots-slot.false

pub returns : goal.returns
returns c = (
  λ h. leaves_none _ _ _ _ c.loop-statement.invariant c.loop-statement-test.false,
  λ whole. refl,
)
