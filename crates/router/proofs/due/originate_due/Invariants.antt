use Rattle.std.proofs.Common.{take}
use Rattle.event_rules.specs.Originations.{originate_due}
use Rattle.router.specs.Making.{Makes}
use Rattle.router.proofs.due.originate_due.Given as goal

abbrev pub invariant-loop-key : goal.invariant-loop-key
invariant-loop-key l =
    Makes (originate_due l.moment (take l.key-index l.keys)) l.fn.router l.router
