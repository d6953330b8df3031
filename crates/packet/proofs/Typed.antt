-- What a packet's types ensure and what is proved of it make it a packet that can be encoded.
use Rattle.std.proofs.Common.{ℕ, List}
use Rattle.words.specs.Fields.{AreBytes}
use Rattle.words.proofs.Each.{each_both}
use Rattle.packet.specs.declared.model.PacketBody.{PacketBody}
use Rattle.packet.specs.declared.model.PacketBody.TheVariants as body
use Rattle.packet.specs.declared.model.Packet.{Packet}
use Rattle.packet.specs.Ranges.{BodyIsTyped, IsWhole, LsasAreWhole, PacketIsTyped}
use Rattle.packet.specs.Text.{IsBody, IsPacket, IsUnparsedLsa}

is_unparsed : (lsa : List ℕ) → AreBytes lsa → IsWhole lsa → IsUnparsedLsa lsa
is_unparsed lsa bytes whole = record { room = whole.room; said = whole.said; bytes = bytes }

is_body : (b : PacketBody) → BodyIsTyped b → LsasAreWhole b → IsBody b
is_body (body.Hello h) typed whole = typed
is_body (body.Description d) typed whole = typed
is_body (body.Request keys) typed whole = typed
is_body (body.Update lsas) typed whole =
    each_both AreBytes IsWhole IsUnparsedLsa is_unparsed lsas typed whole
is_body (body.Acknowledgment headers) typed whole = typed

pub is_packet : (p : Packet) → PacketIsTyped p → LsasAreWhole p.body → IsPacket p
is_packet p typed whole = record { router = typed.router; body = is_body p.body typed.body whole }
