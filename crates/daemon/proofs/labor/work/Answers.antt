use Rattle.daemon.proofs.Ended.{until_fault, until_told}
use Rattle.daemon.proofs.labor.work.Goals as goal

pub returns-clause-lived : goal.returns-clause-lived
returns-clause-lived g c fine = (
  c.run-ended.new.quit,
  c.run-ended.new.transport,
  c.run-ended.new.clock,
  until_told c.run-ended.result _ _ c.end-end.result c.run-ended.ensures.lived
      c.run-ended.ensures.ended c.end-end.ensures fine,
)

pub returns-clause-lived_on : goal.returns-clause-lived_on
returns-clause-lived_on g c failed none = (
  c.run-ended.new.quit,
  until_fault c.run-ended.result _ _ c.end-end.result c.run-ended.ensures.lived_on
      c.run-ended.ensures.ended c.end-end.ensures failed none,
)
