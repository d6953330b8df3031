-- What a Full neighbor described is held, or came and was lost (RFC 2328, sections 10.3, 10.6 and
-- 10.9), in every history of two neighbors: what a router accepts it requests, and goes on until an
-- instance that is as new has come.
use Rattle.std.specs.Prelude.{◌≡◌, ◌⊎◌, true, List, [], ◌∷◌, Some}
use Rattle.std.specs.FinMap as finite
use Rattle.std.specs.List.{Contains}
use Rattle.words.specs.declared.key.Key.{Key}
use Rattle.lsdb.specs.Copies.{DatabaseCopy}
use Rattle.lsdb.specs.Headers.{Header, Lsa, key_of, lsa_key}
use Rattle.packet.specs.declared.model.Description.{Description}
use Rattle.adjacency.specs.declared.state.NeighborState.TheVariants.{Full}
use Rattle.adjacency.specs.Neighbors.{Neighbor}
use Rattle.received.specs.Links.{neighbor_at}
use Rattle.event_rules.specs.Events.{Step}
use Rattle.event_rules.specs.InstanceIdentities.{InstanceIdentity, identity_of_header}
use Rattle.event_rules.specs.Routers.{Occurrence, Router}
use Rattle.invariants.specs.NewInstances.{BringsLsa}
use Rattle.agreement_laws.specs.Exchanged.{Conversation, Converses, conversation_with}
use Rattle.agreement_laws.specs.NeighborHistories.{Ends, IsHistory, Pair, Side, Turn, event_of}
use Rattle.agreement_laws.specs.NeighborHistories.{interface_of, party}
use Rattle.agreement_laws.specs.NeighborsAgree.{HoldsAsNew, IsWithout, is_as_new}
use Rattle.agreement_laws.specs.Answers.{IsAccepted}

-- ---- what was accepted

-- a header of the key
pub record HasAccepted (ends : Ends) (side : Side) (with_it : Conversation) (key : Key)
    (now : Pair) (earlier : List Pair) (h : IsHistory ends now earlier) : Type 0 where
  pub description : Description
  pub accepted : IsAccepted ends side with_it description now earlier h
  pub header : Header
  pub among : Contains description.headers header
  pub of_key : key_of header ≡ key

-- each header of its key that was accepted in the conversation names one as new
abbrev pub AreAsNew : (ends : Ends) → Side → Conversation → InstanceIdentity → (now : Pair)
    (earlier : List Pair) → IsHistory ends now earlier → Type 0
AreAsNew ends side with_it name now earlier h =
    (d : Description) → IsAccepted ends side with_it d now earlier h
    → (g : Header) → Contains d.headers g → key_of g ≡ name.key
    → is_as_new (identity_of_header g) name ≡ true

-- ---- what is lost

-- there was an LSA of the key in the event
pub data WasThere (old : Router) (event : Occurrence) (key : Key) : Type 0 where
  Before : (copy : DatabaseCopy) → finite.get old.area.database key ≡ Some copy
      → WasThere old event key
  Brought : (lsa : Lsa) → BringsLsa event lsa → lsa_key lsa ≡ key → WasThere old event key
  -- the router may have originated it
  Own : key.advertising_router ≡ old.id → WasThere old event key

-- in the turn there was one, and no copy is held after it
pub record Loses (ends : Ends) (side : Side) (key : Key) (before after : Pair)
    (t : Turn ends before after) : Type 0 where
  pub step : Step
  pub taken : event_of ends side before after t ≡ Some step
  pub there : WasThere (party side before).router step.event key
  pub without : IsWithout key (party side after).router

-- the router of this side lost the key in the conversation, once it had accepted a header of it
abbrev pub WasLost : (ends : Ends) → Side → Conversation → Key → (now : Pair)
    (earlier : List Pair) → IsHistory ends now earlier → Type 0
WasLost ends side with_it key now [] h = ⊥
WasLost ends side with_it key now (before ∷ earlier) h =
    Converses (interface_of side ends) with_it (party side now).router
    × ((Loses ends side key before now h.0
    × HasAccepted ends side with_it key now (before ∷ earlier) h)
    ⊎ WasLost ends side with_it key before earlier h.1)

-- ---- the law

abbrev pub WhatWasAcceptedIsHeld : Type 0
WhatWasAcceptedIsHeld =
    (ends : Ends) (side : Side) (now : Pair) (earlier : List Pair)
    (h : IsHistory ends now earlier) → (n : Neighbor)
    → neighbor_at (interface_of side ends) (party side now).router.area.links ≡ Some n
    → n.state ≡ Full → (name : InstanceIdentity)
    → AreAsNew ends side (conversation_with n) name now earlier h
    → HasAccepted ends side (conversation_with n) name.key now earlier h
    → HoldsAsNew (party side now).router name
    ⊎ WasLost ends side (conversation_with n) name.key now earlier h
