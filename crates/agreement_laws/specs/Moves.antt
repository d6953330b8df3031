-- What moves an exchange of Descriptions (RFC 2328, sections 10.6 and 10.8): the neighbor's
-- Descriptions, and nothing else while the conversation goes on.
use Rattle.std.specs.Prelude.{◌≡◌, Some}
use Rattle.words.specs.Numbers.{InterfaceNumber}
use Rattle.packet.specs.declared.model.Description.{Description}
use Rattle.adjacency.specs.Neighbors.{Neighbor}
use Rattle.received.specs.Links.{neighbor_at}
use Rattle.event_rules.specs.Routers.{Occurrence, Router}
use Rattle.agreement_laws.specs.EachEvent.{OfEachEvent}
use Rattle.agreement_laws.specs.Exchanged.{Converses, conversation_with}
use Rattle.agreement_laws.specs.Accepted.{BringsDescription}

-- the roles, the number, the last Description received, and what is still to be described
pub record IsAsBefore (before after : Neighbor) : Type 0 where
  pub is_master : after.is_master ≡ before.is_master
  pub sequence : after.sequence ≡ before.sequence
  pub received : after.received ≡ before.received
  pub summary : after.summary ≡ before.summary

-- what becomes of the exchange with this neighbor, which is at the interface before the event
pub data BecameOfExchange (event : Occurrence) (interface : InterfaceNumber) (n : Neighbor)
    (new : Router) : Type 0 where
  Stands : (m : Neighbor) → neighbor_at interface new.area.links ≡ Some m
      → conversation_with m ≡ conversation_with n → IsAsBefore n m
      → BecameOfExchange event interface n new
  Moved : (d : Description) → BringsDescription event interface n.router d
      → BecameOfExchange event interface n new
  -- the conversation is over, or isn't in Exchange yet
  Over : (Converses interface (conversation_with n) new → ⊥)
      → BecameOfExchange event interface n new

abbrev pub OnlyDescriptionsMoveAnExchange : Type 0
OnlyDescriptionsMoveAnExchange = OfEachEvent (λ old moment event new. (interface : InterfaceNumber)
    (n : Neighbor) → neighbor_at interface old.area.links ≡ Some n
    → BecameOfExchange event interface n new)
