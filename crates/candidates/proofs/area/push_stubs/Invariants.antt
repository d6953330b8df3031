use Rattle.std.proofs.Common.{take}
use Rattle.candidates.specs.Gathering.{Adds, OfferCostsFit, OfEach}
use Rattle.candidates.specs.Sources.{IsStub}
use Rattle.candidates.proofs.area.push_stubs.Given as goal

abbrev pub invariant-loop-link : goal.invariant-loop-link
invariant-loop-link l = Adds l.fn.offers.items l.offers.items
    (OfEach (IsStub l.way) (take l.link-index l.links))
    × (OfferCostsFit l.fn.offers.items → OfferCostsFit l.offers.items)
