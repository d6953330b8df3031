-- A packet that is parsed can be written.
use Rattle.std.proofs.Common.{◌≡◌, ℕ, ◌+◌, ◌^◌, ◌<◌, ◌≤◌, List, length, Result, Ok, Err, refl, ap}
use Rattle.std.proofs.Common.{arith}
use Rattle.std.specs.Prelude.{IfOk}
use Rattle.packet.specs.declared.model.PacketBody.{PacketBody}
use Rattle.packet.specs.declared.model.PacketBody.TheVariants as body
use Rattle.packet.specs.declared.model.Packet.{Packet}
use Rattle.packet.specs.declared.refusal.PacketError.{PacketError}
use Rattle.packet.specs.Text.{IsBody, Open, PacketText, body_text, closed_fields, lsa_count, text}
use Rattle.packet.proofs.Again.{lsas_room}

-- the open fields are as long as zeros there
same_length : (o : Open) (b : PacketBody)
    → length (body_text o b) ≡ length (body_text closed_fields b)
same_length o (body.Hello h) = refl
same_length o (body.Description d) = refl
same_length o (body.Request keys) = refl
same_length o (body.Update lsas) = refl
same_length o (body.Acknowledgment headers) = refl

few : (o : Open) (b : PacketBody) → IsBody b → length (body_text o b) ≤ 8192 → lsa_count b < 2 ^ 32
few o (body.Hello h) is le = omega arith
few o (body.Description d) is le = omega arith
few o (body.Request keys) is le = omega arith
few o (body.Update lsas) is le = omega (arith, lsas_room lsas is, le)
few o (body.Acknowledgment headers) is le = omega arith

abbrev pub IsWritable : Packet → Type 0
IsWritable p = (length (text closed_fields 0 p) ≤ 8192) × (lsa_count p.body < 2 ^ 32)

pub text_is_writable : (bytes : List ℕ) (p : Packet) → PacketText bytes p → IsWritable p
text_is_writable bytes p t =
    let long : length bytes ≡ 24 + length (body_text t.filler p.body) =
    omega (arith, ap length t.spelled) in
    let same = same_length t.filler p.body in
    let whole : length (text closed_fields 0 p) ≡ 24 + length (body_text closed_fields p.body) =
    omega arith in (
      omega (arith, t.size, long, same, whole),
      few t.filler p.body t.is_packet.body (omega (arith, t.size, long)),
    )

pub is_writable : (bytes : List ℕ) (r : Result Packet PacketError)
    → IfOk r (λ p. PacketText bytes p) → IfOk r (λ p. IsWritable p)
is_writable bytes (Ok p) t = text_is_writable bytes p t
is_writable bytes (Err e) t = tt
