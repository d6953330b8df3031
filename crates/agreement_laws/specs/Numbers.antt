-- How an accepted Description moves the DD sequence numbers (RFC 2328, sections 10.6 and 10.8): its
-- number is the expected one; the slave takes it over, the master goes on to the next one, or is
-- done.
use Rattle.std.specs.Prelude.{◌≡◌, ◌⊎◌, ◌+◌, ◌%◌, ◌^◌, true, false, Some}
use Rattle.words.specs.Numbers.{InterfaceNumber}
use Rattle.packet.specs.declared.model.Description.{Description}
use Rattle.adjacency.specs.declared.state.NeighborState.TheVariants.{Exchange}
use Rattle.adjacency.specs.Descriptions.{as_received, expected_sequence}
use Rattle.adjacency.specs.Neighbors.{Neighbor}
use Rattle.received.specs.Links.{neighbor_at}
use Rattle.event_rules.specs.Routers.{Router}
use Rattle.agreement_laws.specs.EachEvent.{OfEachEvent}
use Rattle.agreement_laws.specs.Exchanged.{conversation_with}
use Rattle.agreement_laws.specs.Accepted.{AcceptsDescription}

-- from before the Description to after it
pub record NumbersMove (before : Neighbor) (d : Description) (after : Neighbor) : Type 0 where
  pub expected : d.sequence ≡ expected_sequence before
  pub same_role : after.is_master ≡ before.is_master
  pub received : after.received ≡ Some (as_received d)
  pub slave : before.is_master ≡ false → after.sequence ≡ d.sequence
  pub master : before.is_master ≡ true
      → (after.sequence ≡ (before.sequence + 1) % 2 ^ 32) ⊎ (after.sequence ≡ before.sequence)

-- what stands at the interface after an event in which a Description is accepted in Exchange
pub record HasMoved (interface : InterfaceNumber) (n : Neighbor) (d : Description) (new : Router)
    : Type 0 where
  pub neighbor : Neighbor
  pub there : neighbor_at interface new.area.links ≡ Some neighbor
  pub same : conversation_with neighbor ≡ conversation_with n
  pub moved : NumbersMove n d neighbor

-- each Description that is accepted in Exchange
abbrev pub AcceptedDescriptionsMoveNumbers : Type 0
AcceptedDescriptionsMoveNumbers = OfEachEvent (λ old moment event new. (interface : InterfaceNumber)
    (n : Neighbor) (d : Description) → AcceptsDescription old moment event interface n d
    → n.state ≡ Exchange → HasMoved interface n d new)
