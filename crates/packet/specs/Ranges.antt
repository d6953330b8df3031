-- What the field types of a packet in Rust ensure, and what they don't: that each LSA of a Link
-- State Update has room for its header and the length that it gives. Together they are `IsPacket`.
use Rattle.std.specs.Prelude.{◌≡◌, ◌≤◌, ℕ, List, length}
use Rattle.std.specs.List.{AllByRecursion}
use Rattle.words.specs.Fields.{AreBytes, field}
use Rattle.lsa.specs.Headers.{IsHeader}
use Rattle.packet.specs.declared.model.PacketBody.{PacketBody}
use Rattle.packet.specs.declared.model.PacketBody.TheVariants as body
use Rattle.packet.specs.declared.model.Packet.{Packet}
use Rattle.packet.specs.Text.{IsDescription, IsHello, IsKey, IsRouterId}

-- ---- ensured by the types

abbrev pub BodyIsTyped : PacketBody → Type 0
BodyIsTyped (body.Hello h) = IsHello h
BodyIsTyped (body.Description d) = IsDescription d
BodyIsTyped (body.Request keys) = AllByRecursion IsKey keys
BodyIsTyped (body.Update lsas) = AllByRecursion AreBytes lsas
BodyIsTyped (body.Acknowledgment headers) = AllByRecursion IsHeader headers

pub record PacketIsTyped (p : Packet) : Type 0 where
  pub router : IsRouterId p.router
  pub body : BodyIsTyped p.body

-- ---- left to prove

-- an unparsed LSA has room for a header, whose length field is its number of bytes (A.4.1)
pub record IsWhole (lsa : List ℕ) : Type 0 where
  pub room : 20 ≤ length lsa
  pub said : field lsa 18 2 ≡ length lsa

abbrev pub LsasAreWhole : PacketBody → Type 0
LsasAreWhole (body.Hello h) = Unit {0}
LsasAreWhole (body.Description d) = Unit {0}
LsasAreWhole (body.Request keys) = Unit {0}
LsasAreWhole (body.Update lsas) = AllByRecursion IsWhole lsas
LsasAreWhole (body.Acknowledgment headers) = Unit {0}
