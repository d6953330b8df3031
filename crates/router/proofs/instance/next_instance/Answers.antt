use Rattle.std.proofs.Common.{ap, ◌∙◌}
use Rattle.std.specs.FinMap as finite
use Rattle.router.specs.Instances.{next_number}
use Rattle.router.proofs.Instances.{instance_is}
use Rattle.router.proofs.instance.next_instance.Goals as goal

pub returns : goal.returns
returns c =
    instance_is c.args.key.now (finite.get c.args.database.now.present c.args.key.now) c.args.body
    c.in-Some.sequence c.in_ok-lsa.lsa
    (c.in-Some.ensures.number ∙ ap next_number c.get.ensures) c.in_ok-lsa.ensures
