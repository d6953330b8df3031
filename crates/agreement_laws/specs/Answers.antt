-- In an exchange each Description is answered by one with its DD sequence number (RFC 2328,
-- sections 10.6 and 10.8): the slave sends none but in answer to one of the master's; the master is
-- done only once each of its own is answered, the opening one too. So it is in every history of two
-- neighbors.
use Rattle.std.specs.Prelude.{◌≡◌, ◌⊎◌, ℕ, Bool, true, false, not, nat_lt, if◌then◌else◌, List, []}
use Rattle.std.specs.Prelude.{Some}
use Rattle.words.specs.Numbers.{InterfaceNumber, RouterNumber}
use Rattle.packet.specs.declared.model.Description.{Description}
use Rattle.adjacency.specs.Adjacencies.{initial_description}
use Rattle.adjacency.specs.Neighbors.{Neighbor, is_exchange_or_later}
use Rattle.received.specs.Links.{neighbor_at}
use Rattle.received.specs.AreaStates.{Send}
use Rattle.event_rules.specs.Endings.{end_event}
use Rattle.event_rules.specs.Events.{Step}
use Rattle.agreement_laws.specs.Exchanged.{Conversation, Converses, conversation_with}
use Rattle.agreement_laws.specs.HeldWasExchanged.{is_exchange_done}
use Rattle.agreement_laws.specs.NeighborHistories.{Doing, Ends, InSomeTurnSince, IsHistory, OfTurn}
use Rattle.agreement_laws.specs.NeighborHistories.{Pair, Party, Side, Turn, event_of, interface_of}
use Rattle.agreement_laws.specs.NeighborHistories.{is_same_side, other_side, party}
use Rattle.agreement_laws.specs.SaidIsHeld.{Describes}
use Rattle.agreement_laws.specs.Accepted.{AcceptsDescription}

-- ---- turns

-- what is sent, before it is packed
abbrev pub sends_taken : (interface : InterfaceNumber) (heard : List (List ℕ))
    (before after : Party) → Doing interface heard before after → List Send
sends_taken interface heard before after (Doing.Event t) =
    (end_event before.router t.moment t.happens.after).sends
sends_taken interface heard before after (Doing.Start b) = []

-- what the router of this side sends in the turn, if it is its turn
abbrev pub sends_of : (ends : Ends) (side : Side) (before after : Pair) → Turn ends before after
    → List Send
sends_of ends side before after t =
    if is_same_side t.side side
    then sends_taken (interface_of t.side ends) (party (other_side t.side) before).sent
    (party t.side before) (party t.side after) t.does
    else []

-- so it was in some turn since which the router of this side has been in the conversation
abbrev pub InConversationSince : (ends : Ends) → Side → Conversation → OfTurn ends → (now : Pair)
    (earlier : List Pair) → IsHistory ends now earlier → Type 0
InConversationSince ends side with_it Such now earlier h =
    InSomeTurnSince ends
    (λ (w : Pair). Converses (interface_of side ends) with_it (party side w).router)
    Such now earlier h

-- ---- the Descriptions of a conversation

-- one that the router of this side sends: it opened the attempt, or went out in the conversation
pub data IsOf (ends : Ends) (side : Side) (with_it : Conversation) (d : Description)
    (now : Pair) (earlier : List Pair) (h : IsHistory ends now earlier) : Type 0 where
  Opens : (number : ℕ) → with_it.attempt ≡ Some number → d ≡ initial_description number
      → IsOf ends side with_it d now earlier h
  Sent : InConversationSince ends side with_it
      (λ (before after : Pair) (t : Turn ends before after).
      Describes (sends_of ends side before after t) (interface_of side ends) d) now earlier h
      → IsOf ends side with_it d now earlier h

-- one that it accepted
abbrev pub IsAccepted : (ends : Ends) → Side → Conversation → Description → (now : Pair)
    (earlier : List Pair) → IsHistory ends now earlier → Type 0
IsAccepted ends side with_it d now earlier h =
    InConversationSince ends side with_it
    (λ (before after : Pair) (t : Turn ends before after).
    (step : Step) × (event_of ends side before after t ≡ Some step)
    × (n : Neighbor) × AcceptsDescription (party side before).router step.moment step.event
    (interface_of side ends) n d) now earlier h

-- one was accepted that answers it: it has its number, and is from the other role
pub record IsAnswered (ends : Ends) (side : Side) (with_it : Conversation) (d : Description)
    (now : Pair) (earlier : List Pair) (h : IsHistory ends now earlier) : Type 0 where
  pub answer : Description
  pub accepted : IsAccepted ends side with_it answer now earlier h
  pub number : answer.sequence ≡ d.sequence
  pub role : answer.master ≡ not d.master

-- the empty one by which an attempt is opened, whichever role the router has then
pub record IsOpening (d : Description) : Type 0 where
  pub master : d.master ≡ true
  pub empty : d.headers ≡ []

-- ---- the law

-- the master is the router with the larger Router ID
abbrev pub HasRole : Bool → (own router : RouterNumber) → Type 0
HasRole true own router = nat_lt router own ≡ true
HasRole false own router = nat_lt own router ≡ true

-- of the neighbor at the interface, from Exchange on
pub record DescriptionsAreAnswered : Type 0 where
  pub roles : (ends : Ends) (side : Side) (now : Pair) (earlier : List Pair)
      → IsHistory ends now earlier → (n : Neighbor)
      → neighbor_at (interface_of side ends) (party side now).router.area.links ≡ Some n
      → is_exchange_or_later n.state ≡ true
      → HasRole n.is_master (party side now).router.id n.router
  -- the slave answers
  pub slave : (ends : Ends) (side : Side) (now : Pair) (earlier : List Pair)
      → (h : IsHistory ends now earlier) → (n : Neighbor)
      → neighbor_at (interface_of side ends) (party side now).router.area.links ≡ Some n
      → is_exchange_or_later n.state ≡ true → n.is_master ≡ false
      → (d : Description) → IsOf ends side (conversation_with n) d now earlier h
      → IsOpening d ⊎ IsAnswered ends side (conversation_with n) d now earlier h
  -- the master is answered, once the exchange is done
  pub master : (ends : Ends) (side : Side) (now : Pair) (earlier : List Pair)
      → (h : IsHistory ends now earlier) → (n : Neighbor)
      → neighbor_at (interface_of side ends) (party side now).router.area.links ≡ Some n
      → is_exchange_done n.state ≡ true → n.is_master ≡ true
      → (d : Description) → IsOf ends side (conversation_with n) d now earlier h
      → (d.master ≡ true) × IsAnswered ends side (conversation_with n) d now earlier h
