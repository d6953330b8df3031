use Rattle.std.proofs.Common.{◌≡◌, take}
use Rattle.std.specs.FinMap as finite
use Rattle.std.specs.List.{filter_map}
use Rattle.adjacency.specs.Exchanges.{entry_header}
use Rattle.adjacency.proofs.neighbor.descriptions.headers_of.Given as goal

abbrev pub invariant-loop-key : goal.invariant-loop-key
invariant-loop-key l = l.headers.items
    ≡ filter_map (λ key. entry_header l.moment (finite.get l.list.present key))
    (take l.key-index l.keys)
