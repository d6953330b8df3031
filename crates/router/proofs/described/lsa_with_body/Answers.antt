use Rattle.std.proofs.Common.{ap, ◌∙◌}
use Rattle.router.proofs.FullNeighbors.{sealed_body}
use Rattle.router.proofs.described.lsa_with_body.Goals as goal

pub returns : goal.returns
returns c = ap (λ l. l.body) c.in_ok-lsa.ensures ∙ sealed_body _
