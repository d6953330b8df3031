use Rattle.std.specs.Prelude.{string_bytes}
use Rattle.hooktool.proofs.Explained.{explained}
use Rattle.hooktool.proofs.Faulted.{memory_at_object}
use Rattle.hooktool.proofs.explaining.explanation_of.Goals as goal

pub returns-in-Ok-clause-explained : goal.returns-in-Ok-clause-explained
returns-in-Ok-clause-explained c =
    let explanation = c.in-Ok.explanation in
    explained c.args.bytes.now explanation.verdict (string_bytes explanation.before)
    (string_bytes explanation.last) (string_bytes explanation.told)
    c.told_of.result c.in-Ok.ensures.accepts c.in-Ok.ensures.refuses c.in-Ok.ensures.told
    c.told_of.ensures.text c.told_of.ensures.refused

pub returns-in-Ok-clause-fault : goal.returns-in-Ok-clause-fault
returns-in-Ok-clause-fault c = memory_at_object c.args.bytes.now c.told_of.result
    c.told_of.ensures.fault
