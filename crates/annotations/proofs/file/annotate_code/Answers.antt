use Rattle.std.proofs.Common.{Option, inl, refl, subst, sym, ℕ}
use Rattle.annotations.specs.Verdict.{IsTurnsShortfall}
use Rattle.annotations.specs.declared.fuel.Fuel.{Fuel}
use Rattle.annotations.proofs.file.annotate_code.Goals as goal

abbrev fuel_with : (answer : ℕ) → Option ℕ → Fuel
fuel_with answer turns = record { turns = turns; answer = answer }

pub returns-in-Some-clause-outcome : goal.returns-in-Some-clause-outcome
returns-in-Some-clause-outcome c =
    subst (λ (turns : Option ℕ). IsTurnsShortfall c.args.task.now.hook
    (fuel_with c.args.task.now.answer turns) c.args.task.now.bytes.now
    c.in-Err-annotate_counted.fault)
    (sym c.in-Some.is) c.in-Err-annotate_counted.ensures

pub returns-in-Err-clause-outcome : goal.returns-in-Err-clause-outcome
returns-in-Err-clause-outcome c = (c.args.task.now.bytes.now, inl refl, c.in-Err.ensures.why)
