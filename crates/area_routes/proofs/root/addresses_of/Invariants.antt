use Rattle.std.proofs.Common.{◌≡◌, map, take}
use Rattle.area.specs.Kept.{KeptLink}
use Rattle.area.specs.Links.{present}
use Rattle.area_routes.proofs.root.addresses_of.Given as goal

abbrev pub invariant-loop-link : goal.invariant-loop-link
invariant-loop-link l = l.addresses.items
    ≡ map (λ (k : KeptLink). (present k).interface.address) (take l.link-index l.links)
