use Rattle.std.proofs.Common.{arith}
use Rattle.hooktool.proofs.Built.{added_fault, sections_all, sections_more}
use Rattle.hooktool.specs.Orders.{wanted_of}
use Rattle.hooktool.proofs.building.build_sections.Goals as goal

pub loop-index-preserved : goal.loop-index-preserved
loop-index-preserved g c =
    sections_more c.args.file.now (wanted_of g.R.WholeFiles.known c.args.order.now)
    c.loop-index.index c.loop-index.report c.build_at.result c.in-Ok.more
    c.loop-index.invariant c.build_at.ensures.built c.in-Ok.ensures.joined

pub returns-in-Err-clause-fault : goal.returns-in-Err-clause-fault
returns-in-Err-clause-fault g c =
    added_fault g.R.WholeFiles.known c.args.order.now.purpose c.build_at.result _
    c.in-Err.ensures.fault c.build_at.ensures.fault

pub returns-clause-built : goal.returns-clause-built
returns-clause-built g c = sections_all c.args.file.now
    (wanted_of g.R.WholeFiles.known c.args.order.now) c.loop-index.index c.loop-index.report
    (omega arith) c.loop-index.invariant
