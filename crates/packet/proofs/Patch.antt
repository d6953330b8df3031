-- The length and the checksum, written into bytes that had 0 in their fields.
use Rattle.std.proofs.Common.{◌≡◌, ℕ, ◌+◌, ◌/◌, ◌%◌, ◌<◌, ◌≤◌, List, ◌++◌, length, set, refl, sym}
use Rattle.std.proofs.Common.{ap, ◌∙◌, arith}
use Rattle.std.proofs.Math.Nat.{mod-eq_of_lt}
use Rattle.words.specs.Fields.{fields}
use Rattle.packet.specs.declared.model.PacketType.{PacketType}
use Rattle.packet.specs.declared.model.Packet.{Packet}
use Rattle.packet.specs.Checksum.{packet_checksum}
use Rattle.packet.specs.Text.{IsPacket, Open, PacketText, body_text, canonical, closed_fields}
use Rattle.packet.specs.Text.{header, text, type_of}

-- the checksum doesn't cover its own field
pub uncovered : (o : Open) (sum : ℕ) (p : Packet)
    → packet_checksum (text o sum p) ≡ packet_checksum (text o 0 p)
uncovered o sum p = refl

sized : (kind : PacketType) (size router : ℕ) (rest : List ℕ) → size < 65536
    → set (set (fields (header kind 0 router 0 0) ++ rest) 2 (size / 256)) 3 (size % 256)
    ≡ fields (header kind size router 0 0) ++ rest
sized kind size router rest lt =
    let high : size / 256 % 256 ≡ size / 256 = mod-eq_of_lt (omega arith) in
    sym (ap (λ x. set (set (fields (header kind 0 router 0 0) ++ rest) 2 x) 3 (size % 256)) high)

patched : (kind : PacketType) (size router : ℕ) (sum : ℕ) (rest : List ℕ) → sum < 65536
    → set (set (fields (header kind size router 0 0) ++ rest) 12 (sum / 256)) 13 (sum % 256)
    ≡ fields (header kind size router sum 0) ++ rest
patched kind size router sum rest lt =
    let high : sum / 256 % 256 ≡ sum / 256 = mod-eq_of_lt (omega arith) in
    sym (ap (λ x. set (set (fields (header kind size router 0 0) ++ rest) 12 x) 13 (sum % 256))
    high)

pub sized_text : (p : Packet) (bytes : List ℕ) (size : ℕ) → size < 65536
    → bytes ≡ fields (header (type_of p.body) 0 p.router 0 0) ++ body_text closed_fields p.body
    → size ≡ length bytes → set (set bytes 2 (size / 256)) 3 (size % 256)
    ≡ text closed_fields 0 p
sized_text p bytes size lt e is =
    let long : size ≡ 24 + length (body_text closed_fields p.body) =
    omega (arith, is, ap length e) in
    ap (λ b. set (set b 2 (size / 256)) 3 (size % 256)) e
    ∙ sized (type_of p.body) size p.router (body_text closed_fields p.body) lt
    ∙ ap (λ n. fields (header (type_of p.body) n p.router 0 0) ++ body_text closed_fields p.body)
    long

pub patched_text : (p : Packet) (bytes : List ℕ) (sum : ℕ) → sum < 65536
    → bytes ≡ text closed_fields 0 p → sum ≡ packet_checksum bytes
    → set (set bytes 12 (sum / 256)) 13 (sum % 256) ≡ canonical p
unfolding canonical
patched_text p bytes sum lt e is =
    ap (λ b. set (set b 12 (sum / 256)) 13 (sum % 256)) e
    ∙ patched (type_of p.body) (24 + length (body_text closed_fields p.body)) p.router sum
    (body_text closed_fields p.body) lt
    ∙ ap (λ n. text closed_fields n p) (is ∙ ap packet_checksum e)

-- the canonical encoding is an encoding
pub canonical_is_text : (p : Packet) → IsPacket p → length (text closed_fields 0 p) ≤ 8192
    → PacketText (canonical p) p
unfolding canonical
canonical_is_text p is le = record {
  is_packet = is;
  size = le;
  filler = closed_fields;
  authentication = omega arith;
  designated = omega arith;
  backup = omega arith;
  spelled = ap (λ n. text closed_fields n p)
      (sym (uncovered closed_fields (packet_checksum (text closed_fields 0 p)) p));
}
