use Rattle.std.proofs.Common.{◌-◌, arith}
use Rattle.adjacency.specs.Adjacencies.{mismatch_step}
use Rattle.area.proofs.AtLink.{one_steps}
use Rattle.area.proofs.on_links.bad_request.Goals as goal

pub returns : goal.returns
returns c =
    one_steps c.args.links.now (c.args.interface - 1) c.args.interface c.index-links-i.result
    c.bad_request.new.self (omega (arith, c.requires.first, c.requires.last))
    (omega (arith, c.requires.first)) c.index-links-i.is c.bad_request.result
    (mismatch_step c.args.moment) c.bad_request.ensures
