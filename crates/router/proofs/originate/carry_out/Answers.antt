use Rattle.std.proofs.Common.{sym, subst}
use Rattle.router.specs.Decisions.{after_origination}
use Rattle.router.specs.declared.origination.Origination.{Origination}
use Rattle.router.specs.Making.{RouterDoes}
use Rattle.router.proofs.originate.carry_out.Goals as goal

pub returns-in-Waits : goal.returns-in-Waits
returns-in-Waits c =
    subst (λ (x : Origination). RouterDoes (after_origination c.args.moment c.args.key.now x)
    c.args.router.now c.postpone.new.self c.postpone.result) (sym c.in-Waits.is) c.postpone.ensures

pub returns-in-Originates : goal.returns-in-Originates
returns-in-Originates c =
    subst (λ (x : Origination). RouterDoes (after_origination c.args.moment c.args.key.now x)
    c.args.router.now c.originate.new.self c.originate.result) (sym c.in-Originates.is)
    c.originate.ensures
