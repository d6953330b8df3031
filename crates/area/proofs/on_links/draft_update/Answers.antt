use Rattle.std.proofs.Common.{◌-◌, [], ◌∷◌, arith}
use Rattle.lsdb.specs.Copies.{lsa_now}
use Rattle.adjacency.specs.Contents.{Updates}
use Rattle.area.proofs.AtLink.{one_sends}
use Rattle.area.proofs.on_links.draft_update.Goals as goal

pub returns : goal.returns
returns c =
    one_sends c.args.links.now (c.args.interface - 1) c.args.interface c.index-links-i.result
    c.draft_copy.new.self (omega (arith, c.requires.first, c.requires.last))
    (omega (arith, c.requires.first)) c.index-links-i.is c.draft_copy.result
    (Updates (lsa_now c.args.moment c.args.copy.now) ∷ []) c.draft_copy.ensures
