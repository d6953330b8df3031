use Rattle.hooktool.proofs.Built.{memory_built}
use Rattle.hooktool.proofs.building.build_others.Goals as goal

pub returns-clause-fault : goal.returns-clause-fault
returns-clause-fault g c = memory_built g.R.WholeFiles.known _ c.relocation_report.result
    c.relocation_report.ensures.fault
