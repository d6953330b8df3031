use Rattle.std.proofs.Common.{take}
use Rattle.candidates.specs.Gathering.{Adds, OfEach}
use Rattle.routes.specs.Contents.{contents_at}
use Rattle.kept_routes.specs.Destinations.{OffersTo}
use Rattle.kept_routes.proofs.destination.push_externals_to.Given as goal

abbrev pub invariant-loop-key : goal.invariant-loop-key
invariant-loop-key l =
    Adds l.fn.offers.items l.offers.items
    (OfEach (OffersTo (contents_at l.moment l.db.present) l.root l.inner l.prefix)
    (take l.key-index l.keys))
