use Rattle.std.proofs.Common.{inl}
use Rattle.absdom.proofs.ArithmeticLemmas.{operate_below}
use Rattle.knownbits.proofs.domain.results.Goals as goal

pub returns-in-And-clause-precise : goal.returns-in-And-clause-precise
returns-in-And-clause-precise c = rw c.in-And.is (c.and.ensures.precise c.args.width)

pub returns-in-And-clause-upper : goal.returns-in-And-clause-upper
returns-in-And-clause-upper c = λ i above below. c.and.ensures.precise c.args.width i below
    (inl (c.requires.left i above below, c.requires.right i above below))

pub returns-in-Or-clause-precise : goal.returns-in-Or-clause-precise
returns-in-Or-clause-precise c = rw c.in-Or.is (c.or.ensures.precise c.args.width)

pub returns-in-Or-clause-upper : goal.returns-in-Or-clause-upper
returns-in-Or-clause-upper c = λ i above below. c.or.ensures.precise c.args.width i below
    (inl (c.requires.left i above below, c.requires.right i above below))

pub returns-in-Xor-clause-precise : goal.returns-in-Xor-clause-precise
returns-in-Xor-clause-precise c = rw c.in-Xor.is (c.xor.ensures.precise c.args.width)

pub returns-in-Xor-clause-upper : goal.returns-in-Xor-clause-upper
returns-in-Xor-clause-upper c = λ i above below. c.xor.ensures.precise c.args.width i below
    (c.requires.left i above below) (c.requires.right i above below)

pub returns-in_default-clause-holds : goal.returns-in_default-clause-holds
returns-in_default-clause-holds c =
    λ x y small small' left right. c.every.ensures.holds _
    (operate_below c.args.width c.args.operation x y small small')
