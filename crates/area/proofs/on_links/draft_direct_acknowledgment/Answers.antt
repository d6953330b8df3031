use Rattle.std.proofs.Common.{◌-◌, [], ◌∷◌, arith}
use Rattle.adjacency.specs.Contents.{Acknowledges}
use Rattle.area.proofs.AtLink.{one_sends}
use Rattle.area.proofs.on_links.draft_direct_acknowledgment.Goals as goal

pub returns : goal.returns
returns c =
    one_sends c.args.links.now (c.args.interface - 1) c.args.interface c.index-links-i.result
    c.draft_direct_acknowledgment.new.self (omega (arith, c.requires.first, c.requires.last))
    (omega (arith, c.requires.first)) c.index-links-i.is c.draft_direct_acknowledgment.result
    (Acknowledges c.args.header ∷ []) c.draft_direct_acknowledgment.ensures
