use Rattle.std.proofs.Common.{◌≤◌, length, ap, subst, sym}
use Rattle.std.specs.FinMap as finite
use Rattle.std.specs.Prelude.{◌↔◌, IsTrue}
use Rattle.words.specs.Constants.{max_lsas}
use Rattle.area_routes.proofs.Limits.{within}
use Rattle.flood.proofs.Within.{database_within}
use Rattle.area_routes.specs.Kept.{AreKept}
use Rattle.area_routes.specs.Offers.{IsStaleOf}
use Rattle.event_rules.specs.Routers.{Router}
use Rattle.area.specs.Kept.{RouterArea}
use Rattle.flood.specs.Offers.{IsStaleNow}
use Rattle.flood.proofs.Offering.{of_parts, of_router}
use Rattle.flood.proofs.router_core.Core.stale.Goals as goal

pub is_stale-requires-clause-few : goal.is_stale-requires-clause-few
is_stale-requires-clause-few c = subst (λ (a : RouterArea). length a.present.links ≤ 63)
    (sym c.area.ensures.parts) c.area.ensures.few

pub is_stale-requires-clause-size : goal.is_stale-requires-clause-size
is_stale-requires-clause-size c =
    subst (λ (a : RouterArea). finite.len a.present.database ≤ max_lsas) (sym c.area.ensures.parts)
    (within c.self.inside.router.present.id c.self.inside.router.present.area.database
    (database_within c.self.inside.router.present c.self.invariant.2))

pub is_stale-requires-clause-kept : goal.is_stale-requires-clause-kept
is_stale-requires-clause-kept c =
    let r = c.self.inside.router.present in
    of_parts (λ i a m w. AreKept i a m w c.self.inside.routes) r c.id.result
    c.area.result.now.present c.moment.result c.answers.result.now
    c.id.ensures (ap (λ (a : RouterArea). a.present) c.area.ensures.parts) c.moment.ensures
    c.answers.ensures c.self.invariant.5

pub returns-clause-stale : goal.returns-clause-stale
returns-clause-stale c =
    let r = c.self.inside.router.present in
    subst (λ (s : Router). IsTrue c.in_ok-made.made ↔ IsStaleNow s) c.self.view_is
    (of_router (λ i a m w. IsTrue c.in_ok-made.made ↔ IsStaleOf i a m w) r c.id.result
    c.area.result.now.present c.moment.result c.answers.result.now
    c.id.ensures (ap (λ (a : RouterArea). a.present) c.area.ensures.parts) c.moment.ensures
    c.answers.ensures c.in_ok-made.ensures.stale)

pub invariant_of-self : goal.invariant_of-self
invariant_of-self c =
    let r = c.self.inside.router.present in (
      c.self.invariant.0,
      c.self.invariant.1,
      c.self.invariant.2,
      c.self.invariant.3,
      c.self.invariant.4,
      of_router (λ i a m w. AreKept i a m w c.is_stale.new.self) r c.id.result
          c.area.result.now.present c.moment.result c.answers.result.now
          c.id.ensures (ap (λ (a : RouterArea). a.present) c.area.ensures.parts) c.moment.ensures
          c.answers.ensures c.is_stale.ensures.kept,
      c.self.invariant.6,
    )

pub invariant_of-self-2 : goal.invariant_of-self-2
invariant_of-self-2 c =
    let r = c.self.inside.router.present in (
      c.self.invariant.0,
      c.self.invariant.1,
      c.self.invariant.2,
      c.self.invariant.3,
      c.self.invariant.4,
      of_router (λ i a m w. AreKept i a m w c.is_stale.new.self) r c.id.result
          c.area.result.now.present c.moment.result c.answers.result.now
          c.id.ensures (ap (λ (a : RouterArea). a.present) c.area.ensures.parts) c.moment.ensures
          c.answers.ensures c.is_stale.ensures.kept,
      c.self.invariant.6,
    )
