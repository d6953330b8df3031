use Rattle.hooktool.proofs.Built.{memory_built, refused_or}
use Rattle.hooktool.proofs.building.build_section.Goals as goal

pub returns-in_default-clause-built : goal.returns-in_default-clause-built
returns-in_default-clause-built g c = refused_or _ c.section_refusal.result
    c.section_refusal.ensures.refused

pub returns-in_default-clause-fault : goal.returns-in_default-clause-fault
returns-in_default-clause-fault g c = memory_built g.R.WholeFiles.known _ c.section_refusal.result
    c.section_refusal.ensures.fault
