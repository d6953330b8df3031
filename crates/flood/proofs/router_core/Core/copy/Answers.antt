use Rattle.std.proofs.Common.{ap, refl, sym, subst, ◌∙◌}
use Rattle.event_rules.specs.RoomLaws.{IsRoomy}
use Rattle.event_rules.specs.Refusals.{exceeds}
use Rattle.area.specs.Drafted.{nothing_at}
use Rattle.event_rules.specs.Routers.{Router}
use Rattle.router.specs.Kept.{KeptRouter}
use Rattle.flood.proofs.Kept.{begun}
use Rattle.invariants.specs.InOrder.{IsConsistent}
use Rattle.invariants.specs.Keeping.{HasNumbersInRange}
use Rattle.flood.proofs.router_core.Core.copy.Goals as goal

pub invariant_of-result : goal.invariant_of-result
invariant_of-result c =
    let present = ap (λ k. k.present) c.in_ok-router.ensures in (
      ap (λ k. k.committed) c.in_ok-router.ensures ∙ sym present,
      subst IsRoomy (sym present) c.self.invariant.1,
      ap exceeds present ∙ c.self.invariant.2,
      subst IsConsistent (sym present) c.self.invariant.3,
      subst HasNumbersInRange (sym present) c.self.invariant.4,
      (let r : Router = c.in_ok-router.router.present in
          begun r r.id r.area r.moment c.in-Ok.routes refl refl refl
          (c.in-Ok.ensures.routes r.id r.area r.moment) c.in-Ok.ensures.answered
          c.in-Ok.ensures.matching),
      ap (λ k. k.drafted) c.in_ok-router.ensures
          ∙ sym (ap (λ (k : KeptRouter). nothing_at k.present.area.links) c.in_ok-router.ensures),
    )
