use Rattle.std.proofs.Common.{[], ◌∷◌, ◌&&◌, ap, ◌∙◌}
use Rattle.adjacency.specs.Descriptions.{Verdict, first_verdict, is_duplicate}
use Rattle.adjacency.proofs.neighbor.Neighbor.exchange_over.Goals as goal

pub returns : goal.returns
returns c =
    let again = c.is_duplicate-duplicate.ensures
    ∙ ap (λ s. is_duplicate s.received c.args.description.now) c.standing-standing.ensures in
    let master = ap (λ s. s.is_master) c.standing-standing.ensures in
    c.repetition.ensures ∙ (λ i. first_verdict
    ((again i && master i, Verdict.Discarded)
    ∷ (again i && c.is_kept-kept.ensures i, Verdict.Repeated) ∷ []) Verdict.Mismatch)
