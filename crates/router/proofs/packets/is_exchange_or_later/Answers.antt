use Rattle.std.proofs.Common.{ap, ◌∙◌}
use Rattle.received.specs.Links.{neighbor_at}
use Rattle.router.specs.Received.{is_exchange_or_later_named}
use Rattle.router.proofs.Heard.{exchange_named}
use Rattle.router.proofs.packets.is_exchange_or_later.Goals as goal

pub returns : goal.returns
returns c =
    c.is_exchange_or_later_named.ensures
    ∙ ap is_exchange_or_later_named c.neighbor_at-neighbor.ensures
    ∙ exchange_named (neighbor_at c.args.interface c.args.router.now.present.area.links)
