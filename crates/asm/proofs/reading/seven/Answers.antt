use Rattle.std.proofs.Common.{[], ◌∷◌}
use Rattle.asm.proofs.Seen.{if_some}
use Rattle.asm.proofs.reading.seven.Goals as goal

pub returns-clause-found : goal.returns-clause-found
returns-clause-found c = if_some _ _ c.state_of.result
    (λ x k. k (c.args.e.now ∷ c.args.f.now ∷ c.args.g.now ∷ []) c.in_ok-term.ensures.found.0
    c.in_ok-term.ensures.found.1) c.state_of.ensures.found
