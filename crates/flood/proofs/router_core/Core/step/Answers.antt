use Rattle.std.proofs.Common.{sym, ap, ◌∙◌, subst}
use Rattle.event_rules.specs.RoomLaws.{IsRoomy}
use Rattle.event_rules.specs.Refusals.{exceeds}
use Rattle.event_rules.specs.Routers.{Router}
use Rattle.area.specs.Drafted.{nothing_at}
use Rattle.router.specs.Kept.{KeptRouter}
use Rattle.invariants.specs.InOrder.{IsConsistent}
use Rattle.invariants.specs.Keeping.{HasNumbersInRange}
use Rattle.flood.specs.Occurrences.{occurrence_of}
use Rattle.flood.specs.Offers.{AreKeptNow}
use Rattle.flood.proofs.Happening.{stays_roomy}
use Rattle.flood.proofs.router_core.Core.step.Goals as goal

pub invariant_of-self : goal.invariant_of-self
invariant_of-self c =
    let is = ap (λ k. k.present) c.commit_at.ensures in (
      ap (λ k. k.committed) c.commit_at.ensures ∙ sym is,
      subst IsRoomy (sym is)
          (stays_roomy c.self.inside.router.present c.args.moment (occurrence_of c.args.event.now)
          c.in-Ok.outs.items c.process_event.new.router.present c.in-Ok.ensures.ok
          c.self.invariant.1),
      ap exceeds is ∙ c.in-Ok.ensures.limit,
      subst IsConsistent (sym is) c.in-Ok.ensures.order,
      subst HasNumbersInRange (sym is) c.in-Ok.ensures.holds,
      subst (λ (s : Router). AreKeptNow s c.process_event.new.routes) (sym is) c.in-Ok.ensures.kept,
      ap (λ k. k.drafted) c.commit_at.ensures
          ∙ sym (ap (λ (k : KeptRouter). nothing_at k.present.area.links) c.commit_at.ensures),
    )
