use Rattle.std.proofs.Common.{◌≡◌, IsSome, None, subst}
use Rattle.annotations.specs.Annotated.{IsAnnotation, with_found}
use Rattle.annotations.specs.Verdict.{IsFileShortfall}
use Rattle.annotations.specs.declared.fuel.Fuel.{Fuel}
use Rattle.hooktool.proofs.Faulted.{one_fault, refused, unfound}
use Rattle.hooktool.proofs.Found.{found}
use Rattle.hooktool.proofs.annotating.annotate_code.Goals as goal

pub written-requires : goal.written-requires
written-requires g c = c.in-Ok.ensures.accepted.accepts

pub returns-in-Ok-clause-made : goal.returns-in-Ok-clause-made
returns-in-Ok-clause-made g c = found _ c.args.hook c.args.fuel _ _ _ _ c.in-Ok.found.turns
    c.written.result (subst (λ (fuel : Fuel). IsAnnotation c.args.hook
    (with_found fuel c.in-Ok.found.turns) c.args.file.now c.in-Ok.found.annotated.object
    c.in-Ok.found.annotated.bytes.items c.in-Ok.found.annotated.accepted) c.fuel_for.ensures
    c.in-Ok.ensures.accepted) c.written.ensures.stored c.written.ensures.told c.written.ensures.done
    (subst (λ (fuel : Fuel). IsSome fuel.turns → c.in-Ok.found.turns ≡ None) c.fuel_for.ensures
    c.in-Ok.ensures.found)

pub returns-in-Ok-clause-fault : goal.returns-in-Ok-clause-fault
returns-in-Ok-clause-fault g c = one_fault _ _ c.written.result c.written.ensures.fault

pub returns-in-Err-clause-made : goal.returns-in-Err-clause-made
returns-in-Err-clause-made g c = refused _ c.args.hook c.args.fuel c.args.file.now c.in-Err.error
    c.shortfall.result
    (subst (λ (fuel : Fuel). IsFileShortfall c.args.hook fuel c.args.file.now c.in-Err.error)
    c.fuel_for.ensures c.in-Err.ensures.refused) c.shortfall.ensures.refused

pub returns-in-Err-clause-fault : goal.returns-in-Err-clause-fault
returns-in-Err-clause-fault g c = unfound c.args.hook c.args.fuel c.args.file.now _ c.in-Err.error
    c.shortfall.result
    (subst (λ (fuel : Fuel). IsFileShortfall c.args.hook fuel c.args.file.now c.in-Err.error)
    c.fuel_for.ensures c.in-Err.ensures.refused) c.shortfall.ensures.fault
