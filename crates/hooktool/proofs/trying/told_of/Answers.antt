use Rattle.hooktool.proofs.Faulted.{memory_at_object}
use Rattle.hooktool.proofs.Tried.{tried}
use Rattle.hooktool.proofs.trying.told_of.Goals as goal

pub returns-in-Ok-clause-tried : goal.returns-in-Ok-clause-tried
returns-in-Ok-clause-tried c =
    tried c.args.bytes.now c.args.packet.now c.args.question.now c.in-Ok.trial c.report_of.result
    c.in-Ok.ensures.trial c.report_of.ensures.stuck

pub returns-in-Ok-clause-fault : goal.returns-in-Ok-clause-fault
returns-in-Ok-clause-fault c = memory_at_object c.args.bytes.now c.report_of.result
    c.report_of.ensures.fault
