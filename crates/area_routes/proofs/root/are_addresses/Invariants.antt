use Rattle.std.proofs.Common.{◌≡◌, map, take}
use Rattle.area.specs.Kept.{KeptLink}
use Rattle.area.specs.Links.{present}
use Rattle.area_routes.proofs.root.are_addresses.Given as goal

abbrev pub invariant-loop-at : goal.invariant-loop-at
invariant-loop-at l = take l.at l.addresses
    ≡ map (λ (k : KeptLink). (present k).interface.address) (take l.at l.links)
