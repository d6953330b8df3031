use Rattle.hooktool.proofs.Built.{file_built, memory_built, refused_or, told_more}
use Rattle.hooktool.proofs.building.build_bytes.Goals as goal
use Rattle.hooktool.specs.Orders.{wanted_of}

pub returns-in-Ok-clause-built : goal.returns-in-Ok-clause-built
returns-in-Ok-clause-built g c = told_more _ _ c.build_file.result
    (λ report built. file_built c.in-Ok.file c.args.bytes.now
    (wanted_of g.R.WholeFiles.known c.args.order.now) report c.in-Ok.ensures.found.0
    c.in-Ok.ensures.found.1 built) c.build_file.ensures.built

pub returns-in-Err-clause-built : goal.returns-in-Err-clause-built
returns-in-Err-clause-built g c = refused_or _ c.no_elf.result c.no_elf.ensures.refused

pub returns-in-Err-clause-fault : goal.returns-in-Err-clause-fault
returns-in-Err-clause-fault g c = memory_built g.R.WholeFiles.known _ c.no_elf.result
    c.no_elf.ensures.fault
