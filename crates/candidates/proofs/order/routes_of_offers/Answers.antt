use Rattle.std.proofs.Common.{◌≡◌, List, arith, subst}
use Rattle.std.specs.List.{Contains}
use Rattle.std.specs.Prelude.{◌↔◌}
use Rattle.candidates.specs.Borders.{RouteCostsFit}
use Rattle.candidates.specs.Gathering.{OfferCostsFit}
use Rattle.words.specs.declared.route.Route.{Route}
use Rattle.routes.specs.Routes.{AreRoutesAmong}
use Rattle.routes.specs.declared.offer.Offer.{Offer}
use Rattle.routes.proofs.Listed.{routes_among}
use Rattle.candidates.proofs.order.routes_of_offers.Goals as goal

whole : (offers sorted view : List Offer) (routes : List Route) → view ≡ sorted
    → ((o : Offer) → Contains sorted o ↔ Contains offers o)
    → AreRoutesAmong (λ o. Contains view o) routes
    → AreRoutesAmong (λ o. Contains offers o) routes
whole offers sorted view routes is same all =
    let D : List Offer → Type 0 = λ xs. AreRoutesAmong (λ o. Contains xs o) routes in
    routes_among (λ o. Contains sorted o) (λ o. Contains offers o) routes (λ o t. (same o).0 t)
    (λ o t. (same o).1 t) (subst D is all)

below : (offers : List Offer) (routes : List Route) → OfferCostsFit offers
    → AreRoutesAmong (λ o. Contains offers o) routes → RouteCostsFit routes
below offers routes cheap all route among =
    let k = (all.each route).0 among in
    omega (arith, k.cost, cheap k.first k.is_best.offered)

pub returns-clause-routes : goal.returns-clause-routes
returns-clause-routes c = whole c.args.offers.now.items c.sort.new.offers.items c.deref.result.now
    c.in_ok-routes.routes.items c.deref.ensures.value c.sort.ensures.same c.in_ok-routes.ensures

pub returns-clause-few : goal.returns-clause-few
returns-clause-few c = λ cheap.
    below c.args.offers.now.items c.in_ok-routes.routes.items cheap
    (whole c.args.offers.now.items c.sort.new.offers.items c.deref.result.now
    c.in_ok-routes.routes.items c.deref.ensures.value c.sort.ensures.same
    c.in_ok-routes.ensures)
