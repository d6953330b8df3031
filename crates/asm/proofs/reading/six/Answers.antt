use Rattle.std.specs.Prelude.{codes}
use Rattle.asm.proofs.Tokens.{same_text}
use Rattle.asm.proofs.reading.six.Goals as goal

pub returns-clause-found : goal.returns-clause-found
returns-clause-found c =
    rw (
      same_text c.args.a.now (codes "if") c.ne.result c.ne.ensures c.if-ne.false,
      same_text c.args.e.now (codes "goto") c.ne-2.result c.ne-2.ensures c.if-ne-2.false,
    )
    c.branch_of.ensures.found
