use Rattle.std.proofs.Common.{◌-◌, arith}
use Rattle.lsa.specs.Headers.{key_of}
use Rattle.adjacency.specs.Contents.{no_sends}
use Rattle.adjacency.specs.Neighbors.{Neighbor}
use Rattle.adjacency.specs.Retransmissions.{remove_retransmission}
use Rattle.area.proofs.AtLink.{one_steps_silently}
use Rattle.area.proofs.on_links.remove_retransmission.Goals as goal

pub returns : goal.returns
returns c =
    one_steps_silently c.args.links.now (c.args.interface - 1) c.args.interface
    c.index-links-i.result
    c.remove_retransmission.new.self (omega (arith, c.requires.first, c.requires.last))
    (omega (arith, c.requires.first)) c.index-links-i.is c.remove_retransmission.result
    (λ (n : Neighbor). no_sends (remove_retransmission (key_of c.args.header.now) n))
    c.remove_retransmission.ensures
