use Rattle.std.proofs.Common.{arith}
use Rattle.kinds.specs.Meaning.{number_in}
use Rattle.verifier.specs.Lines.{IsBound}
use Rattle.verifier.proofs.bound.bound_of.Goals as goal

pub returns-clause-holds : goal.returns-clause-holds
returns-clause-holds g c = λ start now known.
    let flat : IsBound c.level-flat.result start c.args.rank.constant = record {
      bounded = omega (
        arith,
        c.level-flat.ensures.constant,
        c.level-flat.ensures.down,
        c.level-flat.ensures.none (number_in start),
      );
    } in
    c.in_ok-whole.ensures.holds start now _ known
    (c.in_ok-line.ensures.holds start now _ known flat)
