use Rattle.std.proofs.Common.{[]}
use Rattle.asm.proofs.Seen.{if_some}
use Rattle.asm.proofs.reading.four.Goals as goal

pub returns-then-eq-2-clause-found : goal.returns-then-eq-2-clause-found
returns-then-eq-2-clause-found c =
    if_some _ _ c.state_of.result (λ x k. k [] tt tt) c.state_of.ensures.found
