use Rattle.std.proofs.Common.{◌≡◌, length, eqb, eq-eqb, take, arith, ap, sym}
use Rattle.std.specs.List.{position_or_len}
use Rattle.std.proofs.lemmas.List.Sums.{position_or_len_is}
use Rattle.std.proofs.lemmas.Grind.{common_steps}
use Rattle.elf.proofs.number.first_string.Goals as goal

pub returns-then-byte-eq0 : goal.returns-then-byte-eq0
returns-then-byte-eq0 c =
    let null : position_or_len (λ byte. eqb byte 0) c.args.bytes.now ≡ c.loop-i.i =
    position_or_len_is (λ byte. eqb byte 0) c.args.bytes.now c.loop-i.i 0 (omega arith)
    c.loop-i.invariant (λ lt. eq-eqb _ _ c.if-byte-eq0.true) in
    ap (λ n. take n c.args.bytes.now) (sym null)

pub returns : goal.returns
returns c =
    let all : position_or_len (λ byte. eqb byte 0) c.args.bytes.now ≡ length c.args.bytes.now =
    position_or_len_is (λ byte. eqb byte 0) c.args.bytes.now (length c.args.bytes.now) 0
    (omega arith) (λ k lt. c.loop-i.invariant k (omega arith)) (λ lt. absurd (omega arith)) in
    rw all (grind (arith, common_steps))
