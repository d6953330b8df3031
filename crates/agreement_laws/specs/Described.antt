-- What one neighbor described the other holds, or it came there and was lost (RFC 2328, sections
-- 10.3, 10.6 and 10.9): if both are done with their exchange, in every history of two neighbors;
-- unless a Description of another conversation was taken for one of this.
use Rattle.std.specs.Prelude.{◌≡◌, ◌⊎◌, true, List}
use Rattle.std.specs.List.{Contains}
use Rattle.lsdb.specs.Headers.{Header, key_of}
use Rattle.packet.specs.declared.model.Description.{Description}
use Rattle.adjacency.specs.declared.state.NeighborState.TheVariants.{Full}
use Rattle.event_rules.specs.InstanceIdentities.{InstanceIdentity, identity_of_header}
use Rattle.agreement_laws.specs.Exchanged.{Conversation, conversation_with}
use Rattle.agreement_laws.specs.NeighborHistories.{Ends, IsHistory, Pair, Side, other_side, party}
use Rattle.agreement_laws.specs.NeighborsAgree.{HoldsAsNew, is_as_new}
use Rattle.agreement_laws.specs.Answers.{IsOf}
use Rattle.agreement_laws.specs.Held.{WasLost}
use Rattle.agreement_laws.specs.BothDone.{BothDone, NumbersServeOnce}

-- each header of its key in the Descriptions of the conversation names an instance as new
abbrev pub AreDescribedAsNew : (ends : Ends) → Side → Conversation → InstanceIdentity → (now : Pair)
    (earlier : List Pair) → IsHistory ends now earlier → Type 0
AreDescribedAsNew ends side with_it name now earlier h =
    (d : Description) → IsOf ends side with_it d now earlier h
    → (g : Header) → Contains d.headers g → key_of g ≡ name.key
    → is_as_new (identity_of_header g) name ≡ true

-- the router of this side described the key to the other one, which is Full with it by now
abbrev pub WhatWasDescribedIsHeld : Type 0
WhatWasDescribedIsHeld =
    (ends : Ends) (side : Side) (now : Pair) (earlier : List Pair)
    (h : IsHistory ends now earlier)
    → (both : BothDone ends side now earlier h) → both.its.neighbor.state ≡ Full
    → NumbersServeOnce ends side (conversation_with both.mine.neighbor) now earlier h
    → (name : InstanceIdentity)
    → AreDescribedAsNew ends side (conversation_with both.mine.neighbor) name now earlier h
    → (d : Description) → IsOf ends side (conversation_with both.mine.neighbor) d now earlier h
    → (g : Header) → Contains d.headers g → key_of g ≡ name.key
    → HoldsAsNew (party (other_side side) now).router name
    ⊎ WasLost ends (other_side side) (conversation_with both.its.neighbor) name.key now earlier h
