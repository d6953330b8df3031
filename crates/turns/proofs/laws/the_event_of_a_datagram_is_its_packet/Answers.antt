use Rattle.std.proofs.Common.{refl, subst}
use Rattle.flood.specs.declared.event.Event.{Event}
use Rattle.flood.specs.declared.event.Event.TheVariants as event
use Rattle.turns.specs.Turns.{IsTakenBySome}
use Rattle.turns.proofs.laws.the_event_of_a_datagram_is_its_packet.Goals as goal

pub returns : goal.returns
returns c origin old new events moment number bytes outs stale = (
  λ given. (
    given.1.1,
    subst (λ (e : Event). IsTakenBySome origin events moment e outs stale) given.1.0 given.2,
  ),
  λ (counted, sent). (event.Packet number bytes, (refl, counted), sent),
)
