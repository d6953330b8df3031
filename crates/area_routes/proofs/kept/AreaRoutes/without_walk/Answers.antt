use Rattle.std.proofs.Common.{refl, subst, sym}
use Rattle.area_routes.specs.Kept.{AreRoutesOf, KeptRoutes}
use Rattle.area_routes.proofs.Unwalked.{unwalked}
use Rattle.area_routes.proofs.kept.AreaRoutes.without_walk.Goals as goal

pub returns-clause-routes : goal.returns-clause-routes
returns-clause-routes c id area moment =
    subst (λ (k : KeptRoutes). AreRoutesOf id area moment k) (sym c.of_walk.ensures)
    (unwalked _ refl refl refl refl refl id area moment)
