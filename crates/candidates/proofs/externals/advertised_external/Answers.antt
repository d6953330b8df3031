use Rattle.std.proofs.Common.{rules}
use Rattle.candidates.proofs.Told.{no_network, tells}
use Rattle.candidates.proofs.externals.advertised_external.Goals as goal

pub returns-in_err-prefix : goal.returns-in_err-prefix
returns-in_err-prefix c = rw c.from_residual.ensures
    (no_network _ c.in-External.lsa c.in-External.is c.in_err-prefix.ensures)

pub returns : goal.returns
returns c = tells _ c.in-External.lsa c.in-External.is _ (search rules) c.in_ok-prefix.ensures
    (search rules) (search rules) (search rules) (search rules) (search rules)
