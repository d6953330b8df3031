use Rattle.std.proofs.Common.{[], take}
use Rattle.candidates.specs.Borders.{Tells}
use Rattle.candidates.specs.Gathering.{Adds, OfEach}
use Rattle.candidates.proofs.passes.boundary_routes.Given as goal

abbrev pub invariant-loop-one : goal.invariant-loop-one
invariant-loop-one l = Adds [] l.offers.items
    (OfEach (Tells l.root l.routers) (take l.one-index l.bodies))
