use Rattle.std.proofs.Common.{sym}
use Rattle.hooktool.proofs.Built.{built_at}
use Rattle.hooktool.proofs.building.build_at.Goals as goal
use Rattle.hooktool.specs.Orders.{wanted_of}

pub returns-then-is_program_section-clause-built : goal.returns-then-is_program_section-clause-built
returns-then-is_program_section-clause-built g c =
    built_at c.args.file.now (wanted_of g.R.WholeFiles.known c.args.order.now) c.args.index
    c.build_section.result (sym c.if-is_program_section.ensures) c.build_section.ensures.built
