-- What a router holds was exchanged with its neighbors (RFC 2328, sections 10.3, 10.6 and 13.3):
-- each of its copies is on a neighbor's retransmission list, or is still to be described to it; or,
-- in their present conversation, it was described to the neighbor, or a packet of the neighbor had
-- an instance that is at least as new. This holds whatever is received: nothing is assumed about
-- loss, repetition or delay.
use Rattle.std.specs.Prelude.{◌≡◌, Bool, true, false, List, Some}
use Rattle.std.specs.FinMap as finite
use Rattle.words.specs.Numbers.{InterfaceNumber}
use Rattle.words.specs.declared.key.Key.{Key}
use Rattle.lsdb.specs.Copies.{DatabaseCopy, copy_now}
use Rattle.lsdb.specs.Headers.{key_of}
use Rattle.lsdb.specs.Instances.{ListEntry, listed_now}
use Rattle.lsdb.specs.declared.order.Instance.{Instance}
use Rattle.adjacency.specs.declared.state.NeighborState.{NeighborState}
use Rattle.adjacency.specs.declared.state.NeighborState.TheVariants.{Exchange, ExStart, Full, Init}
use Rattle.adjacency.specs.declared.state.NeighborState.TheVariants.{Loading}
use Rattle.adjacency.specs.Neighbors.{Neighbor, is_exchange_or_later}
use Rattle.received.specs.Links.{neighbor_at}
use Rattle.event_rules.specs.declared.model.Config.{Config}
use Rattle.event_rules.specs.Events.{Run, Step, initial}
use Rattle.event_rules.specs.Routers.{Router}
use Rattle.event_rules.specs.Clocks.{ClockRunsOn}
use Rattle.agreement_laws.specs.Exchanged.{Conversation, WasExchanged, conversation_with}
use Rattle.agreement_laws.specs.Ranks.{is_at_least}

-- a header of the key was exchanged in the conversation that, with its age now, is at least as new
-- as the instance
pub record WasExchangedAsNew (interface : InterfaceNumber) (with_it : Conversation) (key : Key)
    (instance : Instance) (old : Router) (steps : List Step) (new : Router) : Type 0 where
  pub entry : ListEntry
  pub of_key : key_of entry.header ≡ key
  pub as_new : is_at_least (listed_now new.moment entry) instance ≡ true
  pub exchanged : WasExchanged interface with_it entry old steps new

-- nothing with this key is left to be sent to the neighbor: it is on neither list
pub record IsNotOwed (n : Neighbor) (key : Key) : Type 0 where
  pub acknowledged : finite.contains_key n.retransmissions key ≡ false
  pub described : finite.contains_key n.summary key ≡ false

-- after every run: if an instance is held and is on neither list of a neighbor in Exchange or
-- later, one that is at least as new was exchanged
abbrev pub WhatIsHeldWasExchanged : Type 0
WhatIsHeldWasExchanged =
    (c : Config) (steps : List Step) (r : Router) → Run (initial c) steps r
    → ClockRunsOn c.start steps
    → (interface : InterfaceNumber) (n : Neighbor) → neighbor_at interface r.area.links ≡ Some n
    → is_exchange_or_later n.state ≡ true
    → (key : Key) (copy : DatabaseCopy) → finite.get r.area.database key ≡ Some copy
    → IsNotOwed n key
    → WasExchangedAsNew interface (conversation_with n) key (copy_now r.moment copy) (initial c)
    steps r

-- ---- Full neighbors

-- in Loading and Full the exchange of Database Descriptions is completed
abbrev pub is_exchange_done : NeighborState → Bool
is_exchange_done Init = false
is_exchange_done ExStart = false
is_exchange_done Exchange = false
is_exchange_done Loading = true
is_exchange_done Full = true

-- after every run: the Database summary list of a neighbor in Loading or Full is empty
abbrev pub NothingIsLeftToDescribe : Type 0
NothingIsLeftToDescribe =
    (c : Config) (steps : List Step) (r : Router) → Run (initial c) steps r
    → (interface : InterfaceNumber) (n : Neighbor) → neighbor_at interface r.area.links ≡ Some n
    → is_exchange_done n.state ≡ true → n.summary ≡ finite.empty

-- so if an instance is held and isn't on the retransmission list of a Full neighbor, one that is at
-- least as new was exchanged
abbrev pub WasExchangedWithFullNeighbors : Type 0
WasExchangedWithFullNeighbors =
    (c : Config) (steps : List Step) (r : Router) → Run (initial c) steps r
    → ClockRunsOn c.start steps
    → (interface : InterfaceNumber) (n : Neighbor) → neighbor_at interface r.area.links ≡ Some n
    → n.state ≡ Full
    → (key : Key) (copy : DatabaseCopy) → finite.get r.area.database key ≡ Some copy
    → finite.contains_key n.retransmissions key ≡ false
    → WasExchangedAsNew interface (conversation_with n) key (copy_now r.moment copy) (initial c)
    steps r
