use Rattle.std.proofs.Common.{ℕ, Option, subst}
use Rattle.candidates.specs.Entries.{IsLeastMetric}
use Rattle.candidates.specs.declared.entry.EntryKind.TheVariants.{Transit}
use Rattle.candidates.proofs.Steps.{none_cheapest, one_cheapest}
use Rattle.candidates.proofs.links.add_cheapest.Goals as goal

pub returns-in_ok-push-clause-adds : goal.returns-in_ok-push-clause-adds
returns-in_ok-push-clause-adds c =
    let entries = c.args.entries.now in
    let entry = c.args.entry.now in
    let P : Option ℕ → Type 0 = λ o. IsLeastMetric entries c.args.router Transit entry.id 1 o in
    rw c.in_ok-push.ensures.items (one_cheapest entries c.args.router entry c.in-Some.cost
    c.args.links.now.items (subst P c.in-Some.is c.least_metric.ensures))

pub returns-in_default-clause-adds : goal.returns-in_default-clause-adds
returns-in_default-clause-adds c =
    let entries = c.args.entries.now in
    let entry = c.args.entry.now in
    let P : Option ℕ → Type 0 = λ o. IsLeastMetric entries c.args.router Transit entry.id 1 o in
    none_cheapest entries c.args.router entry c.args.links.now.items
    (subst P c.in_default.is c.least_metric.ensures)
