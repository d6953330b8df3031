use Rattle.std.proofs.Common.{ap, ◌∙◌}
use Rattle.router.specs.SentHellos.{routers_of}
use Rattle.router.proofs.SentHellos.{heard_is}
use Rattle.router.proofs.sent_hellos.heard_of.Goals as goal

pub returns : goal.returns
returns c = c.in_ok-routers.ensures ∙ ap routers_of c.neighbor-neighbor.ensures
    ∙ heard_is c.args.link.now.present.neighbor
