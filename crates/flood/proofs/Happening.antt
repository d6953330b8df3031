-- What the code does in an event, in terms of the rules.
use Rattle.std.proofs.Common.{◌≡◌, ℕ, true, false, List, None, refl, sym, ap, ◌∙◌}
use Rattle.std.specs.List.{AllByRecursion}
use Rattle.adjacency.specs.Rooms.{HasRoom}
use Rattle.received.specs.AreaStates.{Send}
use Rattle.event_rules.specs.RoomLaws.{IsRoomy}
use Rattle.event_rules.proofs.Roomy.{every_packet_has_room}
use Rattle.event_rules.specs.declared.model.Out.{Out}
use Rattle.invariants.specs.InOrder.{AnnouncesItsOwn, IsConsistent}
use Rattle.invariants.specs.Keeping.{AnnouncesAddress, AreTexts, HasNumbersInRange}
use Rattle.invariants.specs.Keeping.{KeepsWhatIsKnown}
use Rattle.invariants.specs.LawfulSends.{SendsLawfully}
use Rattle.invariants.proofs.Keeping.{events_keep_what_is_known, instances_stay_in_range}
use Rattle.invariants.proofs.Keeping.{sends_in_range}
use Rattle.invariants.proofs.Known.{router_stays}
use Rattle.invariants.proofs.Acknowledged.{routers_stay_in_order}
use Rattle.event_rules.specs.Endings.{start_event}
use Rattle.event_rules.specs.Events.{Happens}
use Rattle.event_rules.specs.Packing.{outs_of}
use Rattle.event_rules.specs.Refusals.{WouldExceed, exceeds, refusal_before_limits}
use Rattle.event_rules.specs.Routers.{Occurrence, Router}
use Rattle.event_rules.proofs.Outcomes.{determined}
use Rattle.flood.specs.declared.part.Part.{Part}
use Rattle.flood.specs.Occurrences.{is_install}
use Rattle.flood.specs.Parts.{PartHappens, IsPartOf, after_part, made_state}
use Rattle.flood.proofs.Answering.{answers_stay}

module _ (old : Router) (moment : ℕ) (event : Occurrence) (p : Part) (is : IsPartOf event p) where
  -- the result happens
  pub made_happens : (outs : List Out) (new : Router) → PartHappens old moment p outs new
      → Happens old moment event outs new
  made_happens outs new made_state = record {
    after = after_part p moment (start_event moment old);
    own = is.own moment (start_event moment old);
    router = made_state.router;
    sent = made_state.outs;
  }

  -- and keeps what is known, if the packets are encoded correctly
  pub made_keeps : (outs : List Out) (new : Router) → PartHappens old moment p outs new
      → AnnouncesAddress event → IsConsistent old → HasNumbersInRange old
      → AreTexts old.id old.area.links (made_state old moment p).sends
      → KeepsWhatIsKnown old moment event outs new
  unfolding made_happens
  made_keeps outs new made_state address order holds texts =
      events_keep_what_is_known old moment event outs new (made_happens outs new made_state) address
      order holds texts

  -- and sends lawfully, if the packets are encoded correctly
  pub made_lawful : (outs : List Out) (new : Router) → PartHappens old moment p outs new
      → AnnouncesAddress event → IsConsistent old → HasNumbersInRange old
      → AreTexts old.id old.area.links (made_state old moment p).sends
      → SendsLawfully old moment event outs new
  unfolding made_happens
  made_lawful outs new made_state address order holds texts = record {
    happens = made_happens outs new made_state;
    in_range = sends_in_range old moment event outs new (made_happens outs new made_state) address
        order.own holds;
    texts = texts;
  }

  pub made_order : (outs : List Out) (new : Router) → PartHappens old moment p outs new
      → IsConsistent old → IsConsistent new
  made_order outs new made_state order =
      routers_stay_in_order.event old moment event outs new (made_happens outs new made_state) order

  pub made_holds : (outs : List Out) (new : Router) → PartHappens old moment p outs new
      → AnnouncesAddress event → IsConsistent old → HasNumbersInRange old → HasNumbersInRange new
  made_holds outs new made_state address order holds =
      instances_stay_in_range.event old moment event outs new (made_happens outs new made_state)
      address order.own holds

  makes : Happens old moment event (outs_of old.id old.area.links (made_state old moment p).sends)
      (made_state old moment p).router
  makes = made_happens _ _ (record { router = refl; outs = refl })

  -- whatever is sent, the Router ID stays, and so do the programs' answers except at an `Install`
  pub made_id : AnnouncesItsOwn old → (made_state old moment p).router.id ≡ old.id
  made_id own = router_stays old moment event _ _ makes own

  pub made_answers : is_install event ≡ false
      → (made_state old moment p).router.answers ≡ old.answers
  made_answers none = answers_stay old moment event _ _ makes none

  -- all that is sent fits
  pub made_has_room : IsRoomy old → AllByRecursion (λ (s : Send). HasRoom s.content)
      (made_state old moment p).sends
  unfolding makes made_happens
  made_has_room roomy = every_packet_has_room.sends old moment event _ _ makes roomy

  pub made_exceeds : refusal_before_limits old moment event ≡ None
      → exceeds (made_state old moment p).router ≡ true → WouldExceed old moment event
  made_exceeds lawful too_much = record {
    lawful = lawful;
    outs = outs_of old.id old.area.links (made_state old moment p).sends;
    new = (made_state old moment p).router;
    happens = makes;
    too_much = too_much;
  }

  -- an event has only one outcome
  pub made_stays_within : exceeds (made_state old moment p).router ≡ false
      → WouldExceed old moment event → ⊥
  made_stays_within fine would =
      let same : would.new ≡ (made_state old moment p).router =
      (determined old moment event _ _ _ _ would.happens makes).1 in
      let no : true ≡ false = sym would.too_much ∙ ap exceeds same ∙ fine in
      absurd cc

-- after an event, all that the next one sends fits
pub stays_roomy : (old : Router) (moment : ℕ) (event : Occurrence) (outs : List Out) (new : Router)
    → Happens old moment event outs new → IsRoomy old → IsRoomy new
stays_roomy old moment event outs new happens roomy =
    (every_packet_has_room.event old moment event outs new happens roomy).0
