use Rattle.std.proofs.Common.{◌≡◌, List, refl, subst, true, ℕ}
use Rattle.hooktool.proofs.Built.{code_handed_out, memory_built, refused_or, told_more}
use Rattle.hooktool.specs.Builds.{is_file_name}
use Rattle.hooktool.specs.Orders.{wanted_of}
use Rattle.hooktool.proofs.building.build_code.Goals as goal

pub returns-in-Ok-clause-built : goal.returns-in-Ok-clause-built
returns-in-Ok-clause-built g c = told_more _ _ c.hand_out.result (λ report made.
    code_handed_out (wanted_of g.R.WholeFiles.known c.args.order.now) c.args.order.now.purpose
    c.args.hook c.in-Some.name.now c.args.names.function.now c.args.code.now _ _ _ _
    c.in-Ok.found.turns
    report refl c.fuel_for.ensures c.in-Ok.ensures.accepted c.in-Some.ensures.text made
    (subst (λ (n : List ℕ). is_file_name n ≡ true) c.in-Some.ensures.text c.in-Some.ensures.plain)
    c.in-Ok.ensures.found) c.hand_out.ensures.made

pub returns-in-Err-clause-built : goal.returns-in-Err-clause-built
returns-in-Err-clause-built g c = refused_or _ c.shortfall_refusal.result
    c.shortfall_refusal.ensures.refused

pub returns-in-Err-clause-fault : goal.returns-in-Err-clause-fault
returns-in-Err-clause-fault g c = memory_built g.R.WholeFiles.known _ c.shortfall_refusal.result
    c.shortfall_refusal.ensures.fault

pub returns-in_default-clause-built : goal.returns-in_default-clause-built
returns-in_default-clause-built g c = refused_or _ c.function_told.result
    c.function_told.ensures.refused

pub returns-in_default-clause-fault : goal.returns-in_default-clause-fault
returns-in_default-clause-fault g c = memory_built g.R.WholeFiles.known _ c.function_told.result
    c.function_told.ensures.fault
