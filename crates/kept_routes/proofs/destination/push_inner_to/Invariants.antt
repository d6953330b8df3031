use Rattle.std.proofs.Common.{take}
use Rattle.candidates.specs.Gathering.{Adds, OfEach}
use Rattle.kept_routes.specs.Destinations.{IsTo}
use Rattle.kept_routes.proofs.destination.push_inner_to.Given as goal

abbrev pub invariant-loop-offer : goal.invariant-loop-offer
invariant-loop-offer l = Adds l.fn.offers.items l.offers.items
    (OfEach (IsTo l.prefix) (take l.offer-index l.inner))
