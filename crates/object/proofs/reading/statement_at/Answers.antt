use Rattle.std.proofs.Common.{◌≡◌, ◌+◌, ◌-◌, ◌*◌, take, drop, ap, ◌∙◌, arith, inl, inr}
use Rattle.std.specs.Int.{w32, from_le_bytes}
use Rattle.std.proofs.lemmas.List.{take-take}
use Rattle.object.proofs.reading.statement_at.Goals as goal

pub returns-in-Some-clause-spelled : goal.returns-in-Some-clause-spelled
returns-in-Some-clause-spelled c =
    let i = c.args.index in
    let long : 484 * i + 484 - 484 * i ≡ 484 = omega arith in (
      c.in-Some.ensures.found.0 ∙ ap (λ n. take n (drop (484 * i) c.args.bytes.now)) long,
      c.in-Some.ensures.found.1,
    )

pub returns-in-None-clause-why : goal.returns-in-None-clause-why
returns-in-None-clause-why c =
    let i = c.args.index in
    let rest = drop (484 * i) c.args.bytes.now in
    let same : 484 ≡ 484 * i + 484 - 484 * i = omega arith in
    let front = take-take 4 (484 * i + 484 - 484 * i) rest (omega arith) in
    let here : c.slot_of-slot.result ≡ from_le_bytes w32 (take 4 rest) =
    c.slot_of-slot.ensures ∙ ap (λ t. from_le_bytes w32 t) front in (
      λ bad. elim bad [
        | inl w ↦ omega (arith, w, here, c.if-slot-least.false)
        | inr w ↦ omega
            (arith, w, here, c.if-slots-slot.false)
      ],
      λ s is e. cc (c.in-None.is, c.statement.ensures.only s is (e ∙ ap (λ n. take n rest) same)),
    )
