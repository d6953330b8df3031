use Rattle.std.proofs.Common.{◌≡◌, map}
use Rattle.received.specs.Links.{any_has_retransmission, has_retransmission}
use Rattle.area.specs.Links.{present}
use Rattle.area.proofs.AnyLink.{any_from}
use Rattle.area.proofs.on_links.any_has_retransmission.Given as goal

abbrev pub invariant-loop-i : goal.invariant-loop-i
invariant-loop-i l = any_has_retransmission l.key (map present l.links)
    ≡ any_from present (λ s. has_retransmission l.key s.neighbor) l.i l.links
