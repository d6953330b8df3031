use Rattle.std.proofs.Common.{ap, sym, ◌∙◌}
use Rattle.std.specs.Prelude.{Option}
use Rattle.lsdb.specs.Copies.{DatabaseCopy}
use Rattle.received.specs.Cases.{case_of_readable}
use Rattle.area.proofs.cases.case_on.Goals as goal

pub returns-in-None : goal.returns-in-None
returns-in-None c =
    let neighbor = c.args.link.now.present.neighbor in
    c.case_without_copy.ensures c.args.moment neighbor
    ∙ ap (λ (o : Option DatabaseCopy). case_of_readable c.args.moment o neighbor
    c.args.synchronizing c.args.lsa.now) (sym c.in-None.is)
