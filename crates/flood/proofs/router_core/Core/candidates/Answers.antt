use Rattle.std.proofs.Common.{◌≤◌, length, refl, ap, subst, sym}
use Rattle.std.specs.FinMap as finite
use Rattle.words.specs.Constants.{max_lsas}
use Rattle.area_routes.proofs.Limits.{within}
use Rattle.flood.proofs.Within.{database_within}
use Rattle.area_routes.specs.Kept.{AreRoutesOf}
use Rattle.area_routes.specs.Offers.{AreCandidatesOf}
use Rattle.event_rules.specs.Routers.{Router}
use Rattle.area.specs.Kept.{RouterArea}
use Rattle.flood.specs.Offers.{AreCandidatesNow}
use Rattle.flood.proofs.Offering.{of_parts, of_router}
use Rattle.flood.proofs.router_core.Core.candidates.Goals as goal

pub candidates-requires-clause-few : goal.candidates-requires-clause-few
candidates-requires-clause-few c =
    subst (λ (a : RouterArea). length a.present.links ≤ 63) (sym c.area.ensures.parts)
    c.area.ensures.few

pub candidates-requires-clause-size : goal.candidates-requires-clause-size
candidates-requires-clause-size c =
    subst (λ (a : RouterArea). finite.len a.present.database ≤ max_lsas) (sym c.area.ensures.parts)
    (within c.self.inside.router.present.id c.self.inside.router.present.area.database
    (database_within c.self.inside.router.present c.self.invariant.2))

pub candidates-requires-clause-routes : goal.candidates-requires-clause-routes
candidates-requires-clause-routes c =
    let r = c.self.inside.router.present in
    of_parts (λ i a m w. AreRoutesOf i a m c.self.inside.routes) r c.id.result
    c.area.result.now.present c.moment.result r.answers
    c.id.ensures (ap (λ (a : RouterArea). a.present) c.area.ensures.parts) c.moment.ensures refl
    c.self.invariant.5.routes

pub returns : goal.returns
returns c =
    let r = c.self.inside.router.present in
    subst (λ (s : Router). AreCandidatesNow s c.in_ok-made.made) c.self.view_is
    (of_router (λ i a m w. AreCandidatesOf i a m c.in_ok-made.made) r c.id.result
    c.area.result.now.present c.moment.result r.answers
    c.id.ensures (ap (λ (a : RouterArea). a.present) c.area.ensures.parts) c.moment.ensures refl
    c.in_ok-made.ensures)
