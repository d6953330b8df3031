use Rattle.std.proofs.Common.{◌<◌, length, arith}
use Rattle.std.proofs.lemmas.Option.{slice_get-get_or}
use Rattle.hooktool.proofs.Built.{added_fault, functions_all, functions_more}
use Rattle.hooktool.specs.Orders.{wanted_of}
use Rattle.hooktool.proofs.building.build_functions.Goals as goal

pub loop-function-preserved : goal.loop-function-preserved
loop-function-preserved g c =
    let functions = c.args.functions.now in
    let n = c.loop-function.function-index in
    let within : n < length functions = c.loop-function-test.true in
    functions_more c.args.file.now (wanted_of g.R.WholeFiles.known c.args.order.now) c.args.hook
    functions _ n c.loop-function.report c.build_function-built.result c.in-Ok.more
    c.loop-function.invariant c.build_function-built.ensures.built
    (slice_get-get_or functions n _ within) c.in-Ok.ensures.joined

pub returns-in-Err-clause-fault : goal.returns-in-Err-clause-fault
returns-in-Err-clause-fault g c =
    added_fault g.R.WholeFiles.known c.args.order.now.purpose c.build_function-built.result _
    c.in-Err.ensures.fault c.build_function-built.ensures.fault

pub returns-clause-built : goal.returns-clause-built
returns-clause-built g c =
    functions_all c.args.file.now (wanted_of g.R.WholeFiles.known c.args.order.now) c.args.hook
    c.args.functions.now c.loop-function.function-index c.loop-function.report (omega arith)
    c.loop-function.invariant
