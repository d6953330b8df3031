use Rattle.hooktool.proofs.Built.{function_built, memory_built, refused_or, told_more}
use Rattle.hooktool.specs.Orders.{wanted_of}
use Rattle.hooktool.proofs.building.build_function.Goals as goal

pub returns-clause-built : goal.returns-clause-built
returns-clause-built g c = told_more _ _ c.build_code.result (λ report built.
    function_built c.args.file.now (wanted_of g.R.WholeFiles.known c.args.order.now) c.args.hook
    c.args.function.now c.in-Some.name.now c.in-Some-symbol_bytes.code.now report
    c.in-Some.ensures.0
    c.in-Some.ensures.1 c.in-Some-symbol_bytes.ensures.0 c.in-Some-symbol_bytes.ensures.1 built)
    c.build_code.ensures.built

pub returns-in_default-clause-built : goal.returns-in_default-clause-built
returns-in_default-clause-built g c = refused_or _ c.function_told.result
    c.function_told.ensures.refused

pub returns-in_default-clause-fault : goal.returns-in_default-clause-fault
returns-in_default-clause-fault g c = memory_built g.R.WholeFiles.known _ c.function_told.result
    c.function_told.ensures.fault

pub returns-in_default-symbol_bytes-clause-built : goal.returns-in_default-symbol_bytes-clause-built
returns-in_default-symbol_bytes-clause-built g c =
    refused_or _ c.function_told-in_default-symbol_bytes.result
    c.function_told-in_default-symbol_bytes.ensures.refused

pub returns-in_default-symbol_bytes-clause-fault : goal.returns-in_default-symbol_bytes-clause-fault
returns-in_default-symbol_bytes-clause-fault g c =
    memory_built g.R.WholeFiles.known _ c.function_told-in_default-symbol_bytes.result
    c.function_told-in_default-symbol_bytes.ensures.fault
