use Rattle.std.proofs.Common.{subst, sym}
use Rattle.std.specs.Prelude.{IfErr, IfOk}
use Rattle.isa.specs.Hooks.{hook_name}
use Rattle.hooktool.proofs.Built.{memory_built, told_both}
use Rattle.hooktool.specs.Faults.{IsBuildFault}
use Rattle.hooktool.specs.Orders.{IsHandedOut}
use Rattle.hooktool.specs.declared.building.Purpose.{Purpose}
use Rattle.hooktool.proofs.building.hand_out.Goals as goal

pub returns-in-Object-clause-made : goal.returns-in-Object-clause-made
returns-in-Object-clause-made g c = subst (λ (purpose : Purpose). IfOk c.write_function.result
    (IsHandedOut g.R.WholeFiles.known.written purpose c.args.name.now (hook_name c.args.hook)
    c.args.found.now.annotated.bytes.items c.args.found.now.annotated.accepted
    c.args.found.now.turns)) (sym c.in-Object.is)
    (told_both _ _ c.write_function.result c.write_function.ensures.stored
    c.write_function.ensures.told)

pub returns-in-Object-clause-fault : goal.returns-in-Object-clause-fault
returns-in-Object-clause-fault g c = subst (λ (purpose : Purpose). IfErr c.write_function.result
    (IsBuildFault g.R.WholeFiles.known purpose)) (sym c.in-Object.is)
    c.write_function.ensures.fault

pub returns-in-Explanation-clause-made : goal.returns-in-Explanation-clause-made
returns-in-Explanation-clause-made g c = subst (λ (purpose : Purpose).
    IfOk c.explain_function.result
    (IsHandedOut g.R.WholeFiles.known.written purpose c.args.name.now (hook_name c.args.hook)
    c.args.found.now.annotated.bytes.items c.args.found.now.annotated.accepted
    c.args.found.now.turns)) (sym c.in-Explanation.is) c.explain_function.ensures.explained

pub returns-in-Explanation-clause-fault : goal.returns-in-Explanation-clause-fault
returns-in-Explanation-clause-fault g c = memory_built g.R.WholeFiles.known c.args.purpose
    c.explain_function.result c.explain_function.ensures.fault
