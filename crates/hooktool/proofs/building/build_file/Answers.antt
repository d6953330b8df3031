use Rattle.std.proofs.Common.{refl}
use Rattle.hooktool.proofs.Built.{memory_built, program_built, refused_or, told_more}
use Rattle.hooktool.proofs.building.build_file.Goals as goal
use Rattle.hooktool.specs.Orders.{wanted_of}

pub returns-then-has_program-clause-built : goal.returns-then-has_program-clause-built
returns-then-has_program-clause-built g c = told_more _ _ c.build_sections.result
    (λ report built. program_built c.args.file.now
    (wanted_of g.R.WholeFiles.known c.args.order.now) report (c.if-has_program.ensures.found refl)
    built) c.build_sections.ensures.built

pub returns-clause-built : goal.returns-clause-built
returns-clause-built g c = refused_or _ c.no_program.result c.no_program.ensures.refused

pub returns-clause-fault : goal.returns-clause-fault
returns-clause-fault g c = memory_built g.R.WholeFiles.known _ c.no_program.result
    c.no_program.ensures.fault
