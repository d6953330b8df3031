use Rattle.std.proofs.Common.{[], take}
use Rattle.candidates.specs.Gathering.{Adds, OfferCostsFit, OfEach}
use Rattle.candidates.specs.Sources.{IsInner}
use Rattle.candidates.proofs.passes.inner_offers.Given as goal

abbrev pub invariant-loop-one : goal.invariant-loop-one
invariant-loop-one g l = Adds [] l.offers.items
    (OfEach (IsInner l.root (g.W.Ways.ways l.ways) l.routers) (take l.one-index l.bodies))
    × OfferCostsFit l.offers.items
