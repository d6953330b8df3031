use Rattle.std.proofs.Common.{◌≡◌, map}
use Rattle.received.specs.Links.{any_exchange_or_loading, neighbor_is_exchange_or_loading}
use Rattle.area.specs.Links.{present}
use Rattle.area.proofs.AnyLink.{any_from}
use Rattle.area.proofs.on_links.any_exchange_or_loading.Given as goal

abbrev pub invariant-loop-i : goal.invariant-loop-i
invariant-loop-i l = any_exchange_or_loading (map present l.links)
    ≡ any_from present (λ s. neighbor_is_exchange_or_loading s.neighbor) l.i l.links
