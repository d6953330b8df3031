use Rattle.std.proofs.Common.{◌+◌, None, rules, ap, ◌∙◌}
use Rattle.routes.specs.Summaries.{inter}
use Rattle.candidates.specs.Borders.{host}
use Rattle.candidates.proofs.Made.{none_told, of_told}
use Rattle.candidates.proofs.borders.boundary_offer.Goals as goal

pub returns-in_err-border : goal.returns-in_err-border
returns-in_err-border c = rw c.from_residual.ensures
    (none_told _ (λ n. None) _ _ c.in-RouterSummary.lsa c.in-RouterSummary.is
    c.in_err-border.ensures.only)

pub returns : goal.returns
returns c =
    let b = c.in_ok-border.border in
    of_told _ (λ n. None) _ _ c.in-RouterSummary.lsa b c.inter.result (search rules)
    c.in-RouterSummary.is c.in_ok-border.ensures.only
    (c.inter.ensures ∙ ap (λ p. inter p (b.distance + c.in-RouterSummary.lsa.metric) b.hops)
    (c.host.ensures ∙ ap (λ n. host n) c.number.ensures))
