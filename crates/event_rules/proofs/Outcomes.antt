-- An event has only one outcome.
use Rattle.std.proofs.Common.{◌≡◌, ℕ, sym, ap, ◌∙◌}
use Rattle.packet.proofs.Whole.{one_packet}
use Rattle.event_rules.specs.Endings.{end_event}
use Rattle.event_rules.specs.Events.{OwnPart}
use Rattle.event_rules.specs.Laws.{EventsAreDetermined}
use Rattle.event_rules.specs.Packets.{after_packet}
use Rattle.event_rules.specs.Packing.{outs_of}
use Rattle.event_rules.specs.EventState.{EventState}
use Rattle.event_rules.specs.Routers.{Occurrence}

own_once : (moment : ℕ) (event : Occurrence) (p a b : EventState) → OwnPart moment event p a
    → OwnPart moment event p b → a ≡ b
own_once moment (Occurrence.Packet number bytes) p a b x y =
    x.2 ∙ ap (λ q. after_packet moment number q p) (one_packet bytes x.0 y.0 x.1 y.1) ∙ sym y.2
own_once moment Occurrence.Tick p a b x y = x ∙ sym y
own_once moment (Occurrence.Redistribute tagged tag priced price) p a b x y = x ∙ sym y
own_once moment (Occurrence.Withdraw prefix) p a b x y = x ∙ sym y
own_once moment (Occurrence.Install answers) p a b x y = x ∙ sym y
own_once moment (Occurrence.LinkDown number) p a b x y = x ∙ sym y

pub determined : EventsAreDetermined
determined old moment event sent others new another a b =
    let same : a.after ≡ b.after = own_once moment event _ a.after b.after a.own b.own in (
      a.sent ∙ ap (λ (q : EventState). outs_of old.id old.area.links (end_event old moment q).sends)
          same ∙ sym b.sent,
      a.router ∙ ap (λ (q : EventState). (end_event old moment q).router) same ∙ sym b.router,
    )
