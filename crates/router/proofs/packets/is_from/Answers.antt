use Rattle.std.proofs.Common.{ap, ◌∙◌}
use Rattle.received.specs.Links.{neighbor_at}
use Rattle.router.specs.Received.{is_from_named}
use Rattle.router.proofs.Heard.{from_named}
use Rattle.router.proofs.packets.is_from.Goals as goal

pub returns : goal.returns
returns c =
    c.is_from_named.ensures ∙ ap (is_from_named c.args.from) c.neighbor_at-neighbor.ensures
    ∙ from_named c.args.from (neighbor_at c.args.interface c.args.router.now.present.area.links)
