use Rattle.std.proofs.Common.{◌≡◌, ◌<◌, set, ◌/◌, ◌%◌, ◌∙◌, ap, sym, subst, length, arith}
use Rattle.packet.specs.Checksum.{packet_checksum}
use Rattle.packet.specs.Text.{PacketText}
use Rattle.packet.proofs.Patch.{canonical_is_text, patched_text, sized_text}
use Rattle.packet.proofs.Typed.{is_packet}
use Rattle.packet.proofs.writing.write.Goals as goal

pub returns-clause-text : goal.returns-clause-text
returns-clause-text c = λ whole.
    let p = c.args.packet.now in
    let is = is_packet p c.prove_ranges.ensures whole in
    let out = c.in_ok-out.out.items in
    let size : c.len-size.result ≡ length c.in_ok-out.out.items =
    omega (arith, c.len-size.ensures, c.in_ok-out.out.ok.0) in
    let short : c.len-size.result < 65536 =
    omega (arith, size, ap length c.in_ok-out.ensures, c.requires.size) in
    let sized = sized_text p out c.len-size.result short c.in_ok-out.ensures size in
    subst (λ bytes. PacketText bytes p)
    (sym (patched_text p (set (set c.in_ok-out.out.items 2 (c.len-size.result / 256)) 3
    (c.len-size.result % 256)) c.checksum-sum.result c.checksum-sum.type_inv sized
    (c.checksum-sum.ensures ∙ ap packet_checksum c.deref.ensures.value)))
    (canonical_is_text p is c.requires.size)
