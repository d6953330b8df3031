-- What one neighbor described in an exchange the other one accepted, once both are done with it
-- (RFC 2328, sections 10.6 and 10.8); unless a Description of another conversation, which has the
-- same DD sequence number, was taken for one of this.
use Rattle.std.specs.Prelude.{◌≡◌, ◌⊎◌, true, List, Some}
use Rattle.packet.specs.declared.model.Description.{Description}
use Rattle.adjacency.specs.Neighbors.{Neighbor}
use Rattle.received.specs.Links.{neighbor_at}
use Rattle.agreement_laws.specs.Exchanged.{Conversation, conversation_with}
use Rattle.agreement_laws.specs.HeldWasExchanged.{is_exchange_done}
use Rattle.agreement_laws.specs.NeighborHistories.{Ends, IsHistory, Pair, Side, interface_of}
use Rattle.agreement_laws.specs.NeighborHistories.{other_side, party}
use Rattle.agreement_laws.specs.Answers.{IsAccepted, IsOf, IsOpening}

-- no Description of another conversation was taken for one of this: each that the router of this
-- side accepted in its conversation is of the other one's
abbrev pub NoneIsMistaken : (ends : Ends) → Side → (mine its : Conversation) → (now : Pair)
    (earlier : List Pair) → IsHistory ends now earlier → Type 0
NoneIsMistaken ends side mine its now earlier h =
    (d : Description) → IsAccepted ends side mine d now earlier h
    → IsOf ends (other_side side) its d now earlier h

-- the router of this side is done with the exchange with the other one
pub record IsDone (ends : Ends) (side : Side) (now : Pair) : Type 0 where
  pub neighbor : Neighbor
  pub there : neighbor_at (interface_of side ends) (party side now).router.area.links
      ≡ Some neighbor
  pub done : is_exchange_done neighbor.state ≡ true
  pub other : neighbor.router ≡ (party (other_side side) now).router.id

-- Both are done with the exchange, the router of this side and the other one, and neither took a
-- Description of another conversation for one of this.
pub record BothDone (ends : Ends) (side : Side) (now : Pair) (earlier : List Pair)
    (h : IsHistory ends now earlier) : Type 0 where
  pub mine : IsDone ends side now
  pub its : IsDone ends (other_side side) now
  pub none_mistaken_here : NoneIsMistaken ends side (conversation_with mine.neighbor)
      (conversation_with its.neighbor) now earlier h
  pub none_mistaken_there : NoneIsMistaken ends (other_side side)
      (conversation_with its.neighbor) (conversation_with mine.neighbor) now earlier h

-- the other one accepted a Description with this one's number, which the router of this side sent
pub record WasAccepted (ends : Ends) (side : Side) (mine its : Conversation) (d : Description)
    (now : Pair) (earlier : List Pair) (h : IsHistory ends now earlier) : Type 0 where
  pub taken : Description
  pub accepted : IsAccepted ends (other_side side) its taken now earlier h
  pub sent : IsOf ends side mine taken now earlier h
  pub number : taken.sequence ≡ d.sequence
  pub role : taken.master ≡ d.master

-- no two unlike Descriptions that the router of this side sent in its conversation have one number
-- and role; it would take 2^32 of them
abbrev pub NumbersServeOnce : (ends : Ends) → Side → Conversation → (now : Pair)
    (earlier : List Pair) → IsHistory ends now earlier → Type 0
NumbersServeOnce ends side mine now earlier h =
    (a b : Description) → IsOf ends side mine a now earlier h → IsOf ends side mine b now earlier h
    → a.sequence ≡ b.sequence → a.master ≡ b.master → a ≡ b

-- in every history of two neighbors: each that the router of this side sent in the conversation,
-- but an empty opening one
pub record WhatWasDescribedWasAccepted : Type 0 where
  pub accepted : (ends : Ends) (side : Side) (now : Pair) (earlier : List Pair)
      (h : IsHistory ends now earlier) → (both : BothDone ends side now earlier h)
      → (d : Description) → IsOf ends side (conversation_with both.mine.neighbor) d now earlier h
      → IsOpening d
      ⊎ WasAccepted ends side (conversation_with both.mine.neighbor)
      (conversation_with both.its.neighbor) d now earlier h
  -- so the very Description, if numbers serve once
  pub same : (ends : Ends) (side : Side) (now : Pair) (earlier : List Pair)
      (h : IsHistory ends now earlier) → (both : BothDone ends side now earlier h)
      → NumbersServeOnce ends side (conversation_with both.mine.neighbor) now earlier h
      → (d : Description) → IsOf ends side (conversation_with both.mine.neighbor) d now earlier h
      → IsOpening d
      ⊎ IsAccepted ends (other_side side) (conversation_with both.its.neighbor) d now earlier h
