use Rattle.std.proofs.Common.{arith}
use Rattle.std.proofs.lemmas.Bool.{false≢true}
use Rattle.asm.proofs.Making.{unlawful_all, unlawful_last}
use Rattle.asm.proofs.statements.statements_of.Goals as goal

pub returns-in_default : goal.returns-in_default
returns-in_default c = unlawful_all c.args.before.now c.args.last c.loop-open.open-index
    c.open-item.result c.open-item.result (omega arith) c.open-item.is
    (λ r. false≢true (c.in_default.ensures.some.1 r))

pub returns-in_default-close : goal.returns-in_default-close
returns-in_default-close c = unlawful_last c.args.before.now c.args.last c.in-Some-last.open
    c.in-Some-last.is (λ r. false≢true (c.in_default-close.ensures.some.1 r))
