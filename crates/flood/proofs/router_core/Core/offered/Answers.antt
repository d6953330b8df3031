use Rattle.std.proofs.Common.{◌≤◌, length, refl, ap, subst, sym}
use Rattle.std.specs.FinMap as finite
use Rattle.words.specs.Constants.{max_lsas}
use Rattle.area_routes.proofs.Limits.{within}
use Rattle.flood.proofs.Within.{database_within}
use Rattle.area_routes.specs.Kept.{AreRoutesOf}
use Rattle.area_routes.specs.Offers.{AreOffered}
use Rattle.event_rules.specs.Routers.{Router}
use Rattle.area.specs.Kept.{RouterArea}
use Rattle.flood.specs.Offers.{IsOffered}
use Rattle.flood.proofs.Offering.{of_parts, of_router}
use Rattle.flood.proofs.router_core.Core.offered.Goals as goal

pub offered-requires-clause-few : goal.offered-requires-clause-few
offered-requires-clause-few c = subst (λ (a : RouterArea). length a.present.links ≤ 63)
    (sym c.area.ensures.parts) c.area.ensures.few

pub offered-requires-clause-size : goal.offered-requires-clause-size
offered-requires-clause-size c =
    subst (λ (a : RouterArea). finite.len a.present.database ≤ max_lsas) (sym c.area.ensures.parts)
    (within c.self.inside.router.present.id c.self.inside.router.present.area.database
    (database_within c.self.inside.router.present c.self.invariant.2))

pub offered-requires-clause-routes : goal.offered-requires-clause-routes
offered-requires-clause-routes c =
    let r = c.self.inside.router.present in
    of_parts (λ i a m w. AreRoutesOf i a m c.self.inside.routes) r c.id.result
    c.area.result.now.present c.moment.result r.answers
    c.id.ensures (ap (λ (a : RouterArea). a.present) c.area.ensures.parts) c.moment.ensures refl
    c.self.invariant.5.routes

pub returns : goal.returns
returns c =
    let r = c.self.inside.router.present in
    subst (λ (s : Router). IsOffered s c.in_ok-made.made.candidates.items
    c.in_ok-made.made.rows.items) c.self.view_is
    (of_router (λ i a m w. AreOffered i a m w c.in_ok-made.made.candidates.items
    c.in_ok-made.made.rows.items) r c.id.result c.area.result.now.present c.moment.result
    c.answers.result.now
    c.id.ensures (ap (λ (a : RouterArea). a.present) c.area.ensures.parts) c.moment.ensures
    c.answers.ensures c.in_ok-made.ensures)
