use Rattle.operator.proofs.desk.Desk.refresh.Goals as goal

pub returns-clause-served : goal.returns-clause-served
returns-clause-served g c = (c.take.ensures.faults, c.take.ensures.served)
