use Rattle.std.proofs.Common.{◌∙◌, ap}
use Rattle.object.specs.Objects.{ObjectParts}
use Rattle.annotations.proofs.Outcomes.{of_the_same}
use Rattle.annotations.proofs.verdict.judged.Goals as goal

pub returns-in-Some : goal.returns-in-Some
returns-in-Some c =
    let is = c.in-Some.ensures.value in
    of_the_same _ _ _ _ _ (ap (λ (o : ObjectParts). o.hook) is)
    (ap (λ (o : ObjectParts). o.code) is ∙ c.in-Ok.ensures.items) c.verdict_on.ensures
