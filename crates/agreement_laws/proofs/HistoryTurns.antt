-- A turn, from what the event does to the router.
use Rattle.std.proofs.Common.{◌≡◌, ℕ, ◌≤◌, List, ◌++◌, refl, sym, ap, subst}
use Rattle.std.specs.List.{AllByRecursion, Contains, filter_map}
use Rattle.event_rules.specs.Endings.{end_event, start_event}
use Rattle.event_rules.specs.Events.{OwnPart}
use Rattle.event_rules.specs.EventState.{EventState}
use Rattle.event_rules.specs.Packing.{outs_of}
use Rattle.event_rules.specs.Routers.{Occurrence}
use Rattle.invariants.specs.Keeping.{AreTexts, IsIdentityInRange}
use Rattle.invariants.specs.Known.{instances_in_sends}
use Rattle.agreement_laws.specs.NeighborHistories.{Party, TakesEvent, text_at}

abbrev pub next : Party → EventState → Party
next before x = record {
  router = x.router;
  sent = before.sent ++ filter_map (text_at 1)
      (outs_of before.router.id before.router.area.links x.sends);
  began = before.began;
}

pub taken : (heard : List (List ℕ)) (before : Party) (moment : ℕ) (event : Occurrence)
    (p x : EventState) → OwnPart moment event (start_event moment before.router) p
    → end_event before.router moment p ≡ x → before.router.moment ≤ moment
    → ((bytes : List ℕ) → event ≡ Occurrence.Packet 1 bytes → Contains heard bytes)
    → AllByRecursion IsIdentityInRange (instances_in_sends x.sends)
    → AreTexts before.router.id before.router.area.links x.sends
    → TakesEvent 1 heard before (next before x)
taken heard before moment event p x own is later not_forged in_range texts = record {
  moment = moment;
  event = event;
  outs = outs_of before.router.id before.router.area.links x.sends;
  happens = record {
    after = p;
    own = own;
    router = ap (λ (q : EventState). q.router) (sym is);
    sent = ap (λ (q : EventState). outs_of before.router.id before.router.area.links q.sends)
        (sym is);
  };
  clock = later;
  not_forged = not_forged;
  sent = refl;
  began = refl;
  in_range = subst (λ (q : EventState). AllByRecursion IsIdentityInRange
      (instances_in_sends q.sends))
      (sym is) in_range;
  texts = subst (λ (q : EventState). AreTexts before.router.id before.router.area.links q.sends)
      (sym is) texts;
}
