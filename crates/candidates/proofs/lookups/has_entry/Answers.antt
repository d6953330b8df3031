use Rattle.std.proofs.Common.{ℕ, Option, arith, refl, subst}
use Rattle.std.proofs.lemmas.Bool.{false≢true}
use Rattle.candidates.specs.Entries.{IsLeastMetric}
use Rattle.candidates.proofs.lookups.has_entry.Goals as goal

pub returns-in-None : goal.returns-in-None
returns-in-None c =
    let P : Option ℕ → Type 0 = λ o. IsLeastMetric c.args.entries.now c.args.router c.args.kind
    c.args.id 0 o in
    let none = subst P c.in-None.is c.least_metric.ensures in
    ((λ t. absurd (false≢true t)), (λ has. absurd (none has.0 (omega arith) has.1)))

pub returns-in-Some : goal.returns-in-Some
returns-in-Some c =
    let P : Option ℕ → Type 0 = λ o. IsLeastMetric c.args.entries.now c.args.router c.args.kind
    c.args.id 0 o in
    let least = subst P c.in-Some.is c.least_metric.ensures in
    ((λ t. (c.in-Some.field-0, least.1)), (λ has. refl))
