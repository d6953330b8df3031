use Rattle.std.proofs.Common.{◌-◌, arith}
use Rattle.received.specs.Links.{delay_acknowledgment}
use Rattle.area.proofs.AtLink.{one_changes}
use Rattle.area.proofs.on_links.delay_acknowledgment.Goals as goal

pub returns : goal.returns
returns c =
    one_changes c.args.links.now (c.args.interface - 1) c.args.interface c.index-links-i.result
    c.delay_acknowledgment.new.self (omega (arith, c.requires.first, c.requires.last))
    (omega (arith, c.requires.first)) c.index-links-i.is c.delay_acknowledgment.result
    (delay_acknowledgment c.args.header) c.delay_acknowledgment.ensures
