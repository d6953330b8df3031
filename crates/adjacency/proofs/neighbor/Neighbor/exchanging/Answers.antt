use Rattle.std.proofs.Common.{[], ◌∷◌, ◌==◌, ◌&&◌, not, true, ap, ◌∙◌}
use Rattle.adjacency.specs.Descriptions.{Verdict, changes_options, first_verdict, is_duplicate}
use Rattle.adjacency.specs.Descriptions.{same_flag}
use Rattle.adjacency.specs.Exchanges.{expected_of}
use Rattle.adjacency.proofs.Judged.{and_true}
use Rattle.adjacency.proofs.neighbor.Neighbor.exchanging.Goals as goal

pub returns : goal.returns
returns c =
    let stands = c.standing-standing.ensures in
    let d = c.args.description.now in
    let again = c.is_duplicate-duplicate.ensures ∙ ap (λ s. is_duplicate s.received d) stands in
    let repeats = ap (λ b. b && true) again
    ∙ and_true (is_duplicate c.args.self.now.present.received d) in
    let master = ap (λ s. s.is_master) stands in
    let roles = c.same_flag-same_roles.ensures ∙ ap (λ s. same_flag d.master s.is_master) stands in
    let options = c.changes_options-other_options.ensures
    ∙ ap (λ s. changes_options s.received d) stands in
    let next = ap (λ e. d.sequence == e) (c.expected.ensures ∙ ap expected_of stands) in
    c.repetition.ensures
    ∙ (λ i. first_verdict ((again i && master i, Verdict.Discarded) ∷ (repeats i, Verdict.Repeated)
    ∷ []) (c.verdict-otherwise.ensures.verdict i))
    ∙ (λ i. first_verdict ((
      is_duplicate c.args.self.now.present.received d &&
          c.args.self.now.present.is_master,
      Verdict.Discarded,
    )
    ∷ (is_duplicate c.args.self.now.present.received d, Verdict.Repeated)
    ∷ (roles i, Verdict.Mismatch) ∷ (d.init, Verdict.Mismatch)
    ∷ (options i, Verdict.Mismatch) ∷ (not (next i), Verdict.Mismatch) ∷ [])
    Verdict.Accepted)
