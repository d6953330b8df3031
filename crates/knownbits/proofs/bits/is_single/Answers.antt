use Rattle.std.proofs.Common.{arith}
use Rattle.std.proofs.lemmas.Bool.Decides.{nat_tests}
use Rattle.knownbits.proofs.BitLemmas.{all_ones}
use Rattle.knownbits.proofs.bits.is_single.Goals as goal

pub returns-clause-otherwise : goal.returns-clause-otherwise
returns-clause-otherwise c = λ known.
    let whole = all_ones c.args.known.mask (omega arith) known in
    grind (arith, nat_tests)
