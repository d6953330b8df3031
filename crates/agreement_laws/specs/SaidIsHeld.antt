-- A router holds what it says about LSAs (RFC 2328, sections 10.3, 10.7, 10.8, 13, 13.3 and 13.5 to
-- 13.7): the LSAs of a Link State Update when it is sent; what an acknowledgment identifies when it
-- arises, which may be long before it is sent, since it may be delayed; and what is to be described
-- when the exchange begins, whenever the Database Description is sent.
use Rattle.std.specs.Prelude.{◌≡◌, true, List, None, Some}
use Rattle.std.specs.FinMap as finite
use Rattle.std.specs.List.{Contains}
use Rattle.words.specs.Numbers.{InterfaceNumber, Moment}
use Rattle.words.specs.declared.key.Key.{Key}
use Rattle.lsdb.specs.Headers.{Header, Lsa, key_of, lsa_key}
use Rattle.lsdb.specs.Instances.{ListEntry, instance_of}
use Rattle.lsdb.specs.Order.{is_max_age}
use Rattle.lsdb.specs.declared.order.Instance.{Instance}
use Rattle.packet.specs.declared.model.Description.{Description}
use Rattle.adjacency.specs.Contents.{Content}
use Rattle.adjacency.specs.Neighbors.{Neighbor}
use Rattle.received.specs.Links.{Link, link_at, neighbor_at}
use Rattle.received.specs.AreaStates.{Send}
use Rattle.event_rules.specs.declared.model.Out.{Out}
use Rattle.event_rules.specs.Endings.{end_event}
use Rattle.event_rules.specs.Events.{Happens}
use Rattle.event_rules.specs.InstanceIdentities.{InstanceIdentity, identity_of_header}
use Rattle.event_rules.specs.Routers.{Occurrence, Router}
use Rattle.invariants.specs.InOrder.{IsConsistent}
use Rattle.agreement_laws.specs.CopiesClimb.{BecameOf}

-- ---- what is said

-- the LSA is sent at the interface in a Link State Update; its age isn't incremented by
-- InfTransDelay yet
abbrev pub Updates : List Send → InterfaceNumber → Lsa → Type 0
Updates sends interface lsa =
    Contains sends (record { interface = interface; content = Content.Updates lsa })

-- an acknowledgment of the header is sent at the interface
abbrev pub Acknowledges : List Send → InterfaceNumber → Header → Type 0
Acknowledges sends interface header =
    Contains sends (record { interface = interface; content = Content.Acknowledges header })

-- the Database Description is sent at the interface
abbrev pub Describes : List Send → InterfaceNumber → Description → Type 0
Describes sends interface d =
    Contains sends (record { interface = interface; content = Content.Describes d })

-- the interface has a delayed acknowledgment of the header
pub record Waits (interface : InterfaceNumber) (header : Header) (links : List Link) : Type 0 where
  pub link : Link
  pub there : link_at interface links ≡ Some link
  pub key : Key
  pub waits : finite.get link.acknowledgments key ≡ Some header

-- an instance is to be described to the neighbor at the interface: it is on the Database summary
-- list, or in the last Database Description, which may be sent again
pub data IsToDescribe (interface : InterfaceNumber) (name : InstanceIdentity) (links : List Link) :
    Type 0
  where
    Listed : (n : Neighbor) (key : Key) (entry : ListEntry) → neighbor_at interface links ≡ Some n
        → finite.get n.summary key ≡ Some entry → identity_of_header entry.header ≡ name
        → IsToDescribe interface name links
    Last : (n : Neighbor) (d : Description) (header : Header) → neighbor_at interface links ≡ Some n
        → n.described ≡ Some d → Contains d.headers header → identity_of_header header ≡ name
        → IsToDescribe interface name links

-- the instance, whatever its age
abbrev pub young : InstanceIdentity → Instance
young name = record { sequence = name.sequence; checksum = name.checksum; age = 0 }

-- ---- why it is said

-- the header's instance was received: after an event at the moment, with the router `new` as the
-- result, for acknowledgments at this interface
pub data IsReceived (old : Router) (moment : Moment) (event : Occurrence) (new : Router)
    (interface : InterfaceNumber) (header : Header) : Type 0 where
  -- its acknowledgment was delayed before the event
  Waited : Waits interface header old.area.links → IsReceived old moment event new interface header
  -- an instance that is at least as new is held; or it was, and was removed in this event, at
  -- MaxAge
  Held : BecameOf old moment event (instance_of header) (key_of header) new
      → IsReceived old moment event new interface header

-- why an acknowledgment is sent
pub data IsAcknowledged (old : Router) (moment : Moment) (event : Occurrence) (new : Router)
    (interface : InterfaceNumber) (header : Header) : Type 0 where
  Received : IsReceived old moment event new interface header
      → IsAcknowledged old moment event new interface header
  -- there was nothing to flush: the header is at MaxAge, and there was no copy before the event
  NothingToFlush : finite.get old.area.database (key_of header) ≡ None
      → is_max_age header.age ≡ true → IsAcknowledged old moment event new interface header

-- why an instance is described, or is to be
pub data IsOfDatabase (old : Router) (moment : Moment) (event : Occurrence) (new : Router)
    (interface : InterfaceNumber) (name : InstanceIdentity) : Type 0 where
  -- it was to be described before the event
  ToDescribe : IsToDescribe interface name old.area.links
      → IsOfDatabase old moment event new interface name
  -- one that is at least as new is held; or it was, and was removed in this event, at MaxAge
  Held : BecameOf old moment event (young name) name.key new
      → IsOfDatabase old moment event new interface name

pub record SaysWhatIsHeld (old : Router) (moment : Moment) (event : Occurrence)
    (sends : List Send) (new : Router) : Type 0 where
  pub updates : (interface : InterfaceNumber) (lsa : Lsa) → Updates sends interface lsa
      → BecameOf old moment event (instance_of lsa.header) (lsa_key lsa) new
  pub acknowledged : (interface : InterfaceNumber) (header : Header)
      → Acknowledges sends interface header → IsAcknowledged old moment event new interface header
  pub waiting : (interface : InterfaceNumber) (header : Header)
      → Waits interface header new.area.links → IsReceived old moment event new interface header
  pub described : (interface : InterfaceNumber) (d : Description) (header : Header)
      → Describes sends interface d → Contains d.headers header
      → IsOfDatabase old moment event new interface (identity_of_header header)
  pub to_describe : (interface : InterfaceNumber) (name : InstanceIdentity)
      → IsToDescribe interface name new.area.links
      → IsOfDatabase old moment event new interface name

-- for routers of any run: this is so for each event
abbrev pub WhatIsSaidIsHeld : Type 0
WhatIsSaidIsHeld =
    (old : Router) (moment : Moment) (event : Occurrence) (outs : List Out) (new : Router)
    → (happens : Happens old moment event outs new) → IsConsistent old
    → SaysWhatIsHeld old moment event (end_event old moment happens.after).sends new
