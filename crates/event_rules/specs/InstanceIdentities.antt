-- Identities of LSA instances, and those in packets.
use Rattle.std.specs.Prelude.{ℕ, ℤ, List, [], map}
use Rattle.std.specs.List.{filter_map}
use Rattle.words.specs.declared.key.Key.{Key}
use Rattle.lsa.specs.Reading.{lsa_in}
use Rattle.lsdb.specs.Headers.{Header, Lsa, key_of}
use Rattle.packet.specs.declared.model.PacketBody.{PacketBody}
use Rattle.packet.specs.declared.model.PacketBody.TheVariants as body

-- what identifies an instance of an LSA, whatever its age
pub record InstanceIdentity : Type 0 where
  pub key : Key
  pub sequence : ℤ
  pub checksum : ℕ

abbrev pub identity_of_header : Header → InstanceIdentity
identity_of_header h = record { key = key_of h; sequence = h.sequence; checksum = h.checksum }

abbrev pub identity_of_lsa : Lsa → InstanceIdentity
identity_of_lsa lsa = identity_of_header lsa.header

-- the LSAs of a Link State Update that can be parsed
abbrev pub instances_in_update : List (List ℕ) → List InstanceIdentity
instances_in_update lsas = map identity_of_lsa (filter_map lsa_in lsas)

-- the instances that a Link State Update contains
abbrev pub instances_received : PacketBody → List InstanceIdentity
instances_received (body.Hello h) = []
instances_received (body.Description d) = []
instances_received (body.Request keys) = []
instances_received (body.Update lsas) = instances_in_update lsas
instances_received (body.Acknowledgment headers) = []

-- the instances that a Link State Update or Acknowledgment identifies
abbrev pub instances_advertised : PacketBody → List InstanceIdentity
instances_advertised (body.Hello h) = []
instances_advertised (body.Description d) = []
instances_advertised (body.Request keys) = []
instances_advertised (body.Update lsas) = instances_in_update lsas
instances_advertised (body.Acknowledgment headers) = map identity_of_header headers
