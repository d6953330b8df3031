use Rattle.std.proofs.Common.{subst, sym}
use Rattle.std.specs.Prelude.{Result}
use Rattle.hooktool.specs.Orders.{IsJoined}
use Rattle.hooktool.specs.declared.fault.HooktoolFault.{HooktoolFault}
use Rattle.hooktool.specs.declared.report.CommandReport.{CommandReport}
use Rattle.hooktool.proofs.building.added.Goals as goal

pub returns-in-Ok-clause-joined : goal.returns-in-Ok-clause-joined
returns-in-Ok-clause-joined c = subst (λ (more : Result CommandReport HooktoolFault).
    IsJoined c.args.report more c.join.new.report) (sym c.in-Ok.is)
    (c.in_ok-join-in-Ok.ensures.text, c.in_ok-join-in-Ok.ensures.refused)
