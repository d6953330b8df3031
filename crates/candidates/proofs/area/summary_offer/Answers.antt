use Rattle.std.proofs.Common.{None, rules}
use Rattle.candidates.proofs.Made.{no_summary, of_summary}
use Rattle.candidates.proofs.area.summary_offer.Goals as goal

pub returns-in_err-border-clause-only : goal.returns-in_err-border-clause-only
returns-in_err-border-clause-only c =
    rw c.from_residual.ensures (no_summary _ (λ n. None) _ _ c.in-NetworkSummary.lsa
    c.in-NetworkSummary.is c.in_err-border.ensures.only)

pub returns-clause-only : goal.returns-clause-only
returns-clause-only c =
    of_summary _ (λ n. None) _ _ c.in-NetworkSummary.lsa c.in_ok-border.border c.in_ok-prefix.prefix
    c.inter.result (search rules) c.in-NetworkSummary.is c.in_ok-border.ensures.only
    c.in_ok-prefix.ensures c.inter.ensures
