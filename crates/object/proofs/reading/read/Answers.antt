use Rattle.object.proofs.Whole.{only_one}
use Rattle.object.proofs.reading.read.Goals as goal

pub returns-clause-only : goal.returns-clause-only
returns-clause-only c o s = only_one c.args.bytes.now c.outcome.result c.outcome.ensures.found
    c.outcome.ensures.why o s
