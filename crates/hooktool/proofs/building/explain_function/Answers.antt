use Rattle.std.proofs.Common.{◌∙◌, ◌||◌, ap, Bool, subst, ℕ, List}
use Rattle.std.specs.Prelude.{string_bytes}
use Rattle.hooktool.proofs.Built.{added_lacks, told_more}
use Rattle.hooktool.proofs.Explained.{explained_behind}
use Rattle.hooktool.specs.Explanations.{IsExplained}
use Rattle.hooktool.proofs.building.explain_function.Goals as goal

pub returns-clause-explained : goal.returns-clause-explained
returns-clause-explained c =
    let explained = c.in-Ok.explained in
    told_more _ _ c.added.result (λ report joined.
    explained_behind _ (string_bytes c.in_ok-head.head.text) explained report
    (subst (λ (bytes : List ℕ). IsExplained bytes explained) c.deref.ensures.value
    c.in-Ok.ensures.explained)
    joined.0 (joined.1 ∙ ap (λ (is : Bool). is || explained.is_refused)
    c.in_ok-head.ensures.refused)) c.added.ensures.joined

pub returns-clause-fault : goal.returns-clause-fault
returns-clause-fault c = added_lacks c.in-Ok.explained c.added.result c.added.ensures.fault
