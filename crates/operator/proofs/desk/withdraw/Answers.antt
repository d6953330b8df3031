use Rattle.operator.proofs.desk.withdraw.Goals as goal

pub returns-in-Ok-clause-served : goal.returns-in-Ok-clause-served
returns-in-Ok-clause-served g c = (c.take.ensures.faults, c.take.ensures.served)
