use Rattle.std.proofs.Common.{◌∙◌}
use Rattle.area_routes.proofs.Roots.{root_is}
use Rattle.area_routes.proofs.root.root_of.Goals as goal

pub returns : goal.returns
returns c = root_is c.args.router c.links.result.now c.args.area.now.present.links c.from_vec.result
    c.links.ensures.present (c.from_vec.ensures ∙ c.in_ok-addresses.ensures)
