use Rattle.std.proofs.Common.{◌∙◌, sym}
use Rattle.std.specs.Cmp.Lexicographic.{told_text}
use Rattle.lsdb.proofs.Changes.{by_test}
use Rattle.lsdb.proofs.sameness.have_one_rest.Goals as goal

pub returns : goal.returns
returns c =
    let told = by_test c.eq.result _ (told_text c.behind_header.result.now
    c.behind_header-2.result.now c.eq.result c.eq.ensures) in (
      (λ t. sym c.behind_header.ensures ∙ told.0 t ∙ c.behind_header-2.ensures),
      (λ is. told.1 (c.behind_header.ensures ∙ is ∙ sym c.behind_header-2.ensures)),
    )
