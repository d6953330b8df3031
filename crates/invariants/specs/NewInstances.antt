-- What an event brings, and new instances of the router's own LSAs, in terms of the router before
-- the event and after it (RFC 2328, section 12.4).
use Rattle.std.specs.Prelude.{◌≡◌, ℕ, List, [], Option, None, Some}
use Rattle.std.specs.FinMap as finite
use Rattle.std.specs.List.{Contains, filter_map}
use Rattle.words.specs.Numbers.{InterfaceNumber, Moment}
use Rattle.words.specs.declared.key.Key.{Key}
use Rattle.lsa.specs.Reading.{lsa_in}
use Rattle.lsa.specs.declared.body.LsaBody.{LsaBody}
use Rattle.lsdb.specs.Copies.{DatabaseCopy}
use Rattle.lsdb.specs.Headers.{Lsa, lsa_key}
use Rattle.packet.specs.declared.model.PacketBody.{PacketBody}
use Rattle.packet.specs.declared.model.PacketBody.TheVariants as body
use Rattle.packet.specs.declared.model.Packet.{Packet}
use Rattle.packet.specs.Text.{PacketText}
use Rattle.event_rules.specs.InstanceIdentities.{InstanceIdentity, identity_of_lsa}
use Rattle.event_rules.specs.Originations.{new_instance}
use Rattle.event_rules.specs.Routers.{Occurrence, Router}

-- ---- what an event brings

-- the LSAs of a Link State Update that can be parsed
abbrev pub lsas_brought : PacketBody → List Lsa
lsas_brought (body.Hello h) = []
lsas_brought (body.Description d) = []
lsas_brought (body.Request keys) = []
lsas_brought (body.Update lsas) = filter_map lsa_in lsas
lsas_brought (body.Acknowledgment headers) = []

-- the event's Link State Update has this LSA
pub record BringsLsa (event : Occurrence) (lsa : Lsa) : Type 0 where
  pub interface : InterfaceNumber
  pub bytes : List ℕ
  pub packet : Packet
  pub is : event ≡ Occurrence.Packet interface bytes
  pub text : PacketText bytes packet
  pub among : Contains (lsas_brought packet.body) lsa

-- ---- what an event originates

-- the event originated the router's own LSA of this key: the router has noted so for this moment,
-- and hadn't before
pub record Originates (old : Router) (moment : Moment) (new : Router) (key : Key) : Type 0 where
  pub own : key.advertising_router ≡ old.id
  pub now : finite.get new.originated key ≡ Some moment
  pub not_before : finite.get old.originated key ≡ Some moment → ⊥

-- the copy of a received LSA when it is installed
abbrev pub installed_copy : Moment → Lsa → DatabaseCopy
installed_copy moment lsa = record {
  lsa = lsa;
  stored = moment;
  received = Some moment;
  sent = None;
}

-- the copy of the key, if there is one, that a new instance follows: the database's, or one from
-- the event's Link State Update
pub data IsLastCopy (old : Router) (moment : Moment) (event : Occurrence) (key : Key)
    (copy : Option DatabaseCopy) : Type 0 where
  Had : copy ≡ finite.get old.area.database key → IsLastCopy old moment event key copy
  Brought : (lsa : Lsa) → BringsLsa event lsa → lsa_key lsa ≡ key
      → copy ≡ Some (installed_copy moment lsa) → IsLastCopy old moment event key copy

-- a new instance that the router originates in the event, with the sequence number after that of
-- the last copy
pub record IsNewInstance (old : Router) (moment : Moment) (event : Occurrence) (new : Router)
    (name : InstanceIdentity) : Type 0 where
  pub originates : Originates old moment new name.key
  pub copy : Option DatabaseCopy
  pub last : IsLastCopy old moment event name.key copy
  pub says : LsaBody
  pub is : identity_of_lsa (new_instance name.key copy says) ≡ name
