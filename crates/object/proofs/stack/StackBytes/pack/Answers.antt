use Rattle.std.proofs.Common.{◌≡◌, ◌+◌, ◌-◌, ◌*◌, [], ◌∷◌, ◌++◌, take, drop, sym, ap, ◌∙◌, arith}
use Rattle.std.proofs.lemmas.List.{append-nil, append_assoc, take_all}
use Rattle.object.specs.Packing.{packed_bits}
use Rattle.object.proofs.Packing.{packed-more}
use Rattle.object.proofs.stack.StackBytes.pack.Goals as goal

pub loop-byte-init : goal.loop-byte-init
loop-byte-init c = sym (append-nil c.args.out.now.items)

pub loop-byte-preserved : goal.loop-byte-preserved
loop-byte-preserved c =
    let was = c.loop-byte.invariant in
    let long = c.self.told in
    let bits = c.self.inside.bytes in
    let front = packed_bits (take (8 * c.loop-byte.byte) bits) in
    let eight : 8 * c.loop-byte.byte + 8 - 8 * c.loop-byte.byte ≡ 8 = omega arith in
    c.in_ok-push.ensures.items
    ∙ ap (λ t. t ++ c.packed_byte.result ∷ []) was
    ∙ append_assoc c.args.out.now.items front (c.packed_byte.result ∷ [])
    ∙ ap (λ t. c.args.out.now.items ++ (front ++ t))
    (c.packed_byte.ensures ∙ ap (λ n. packed_bits (take n (drop (8 * c.loop-byte.byte) bits)))
    eight)
    ∙ ap (λ t. c.args.out.now.items ++ t) (sym (packed-more c.loop-byte.byte bits (omega arith)))

pub returns : goal.returns
returns c =
    let long = c.self.told in
    c.loop-byte.invariant ∙ ap (λ t. c.args.out.now.items ++ packed_bits t)
    (take_all (8 * c.loop-byte.byte) c.self.inside.bytes (omega arith) ∙ c.self.view_is)
