use Rattle.std.proofs.Common.{◌≡◌, ◌≤◌, true, length, rules, sym, ap, ◌∙◌, subst}
use Rattle.std.specs.FinMap as finite
use Rattle.words.specs.Constants.{max_lsas}
use Rattle.area_routes.proofs.Limits.{within}
use Rattle.flood.proofs.Within.{database_within}
use Rattle.event_rules.specs.RoomLaws.{IsRoomy}
use Rattle.event_rules.proofs.Roomy.{every_packet_has_room}
use Rattle.event_rules.specs.Refusals.{exceeds}
use Rattle.event_rules.specs.Routers.{in_profile}
use Rattle.invariants.specs.InOrder.{IsConsistent}
use Rattle.invariants.specs.Keeping.{HasNumbersInRange}
use Rattle.invariants.proofs.Keeping.{instances_stay_in_range}
use Rattle.invariants.proofs.Acknowledged.{routers_stay_in_order}
use Rattle.invariants.proofs.Limits.{others_stay_within_limits}
use Rattle.area.specs.Drafted.{nothing_at}
use Rattle.area.specs.Kept.{RouterArea}
use Rattle.router.specs.Kept.{KeptRouter}
use Rattle.flood.proofs.Kept.{begun}
use Rattle.flood.proofs.router_core.Core.new.Goals as goal

pub invariant_of-result : goal.invariant_of-result
invariant_of-result c =
    let fine : in_profile c.args.config.now ≡ true = search rules in
    let is = ap (λ k. k.present) c.commit.ensures ∙ c.in_ok-router.ensures in
    let committed = ap (λ k. k.committed) c.commit.ensures
    ∙ sym (ap (λ k. k.present) c.commit.ensures) in
    let router = c.in_profile.ensures.router in (
      committed,
      subst IsRoomy (sym is) (every_packet_has_room.first c.args.config.now fine),
      ap exceeds is ∙ others_stay_within_limits.start c.args.config.now,
      subst IsConsistent (sym is) (routers_stay_in_order.first c.args.config.now),
      subst HasNumbersInRange (sym is) (instances_stay_in_range.first c.args.config.now router),
      begun c.commit.new.self.present c.id.result c.area.result.now.present c.moment.result
          c.in-Ok.routes
          c.id.ensures (ap (λ (a : RouterArea). a.present) c.area.ensures.parts) c.moment.ensures
          c.in-Ok.ensures.routes c.in-Ok.ensures.answered c.in-Ok.ensures.matching,
      ap (λ k. k.drafted) c.commit.ensures
          ∙ sym (ap (λ (k : KeptRouter). nothing_at k.present.area.links) c.commit.ensures),
    )

pub new-requires-clause-few : goal.new-requires-clause-few
new-requires-clause-few c = subst (λ (a : RouterArea). length a.present.links ≤ 63)
    (sym c.area.ensures.parts) c.area.ensures.few

pub new-requires-clause-size : goal.new-requires-clause-size
new-requires-clause-size c =
    let is = ap (λ k. k.present) c.commit.ensures ∙ c.in_ok-router.ensures in
    let fine = ap exceeds is ∙ others_stay_within_limits.start c.args.config.now in
    subst (λ (a : RouterArea). finite.len a.present.database ≤ max_lsas) (sym c.area.ensures.parts)
    (within c.commit.new.self.present.id c.commit.new.self.present.area.database
    (database_within c.commit.new.self.present fine))
