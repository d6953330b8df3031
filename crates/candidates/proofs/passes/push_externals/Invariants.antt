use Rattle.std.proofs.Common.{take}
use Rattle.candidates.specs.Externals.{OfExternalAdvertisement}
use Rattle.candidates.specs.Gathering.{Adds, OfEach}
use Rattle.candidates.proofs.passes.push_externals.Given as goal

abbrev pub invariant-loop-advertised : goal.invariant-loop-advertised
invariant-loop-advertised l = Adds l.fn.offers.items l.offers.items
    (OfEach (OfExternalAdvertisement l.root l.inner.flagged.now l.inner.boundary_routes.now
    l.inner.networks.now)
    (take l.advertised-index l.externals))
