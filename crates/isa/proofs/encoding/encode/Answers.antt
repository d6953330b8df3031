use Rattle.std.proofs.Common.{◌≤◌, length, ap, ◌∙◌, arith}
use Rattle.std.specs.List.{flat_map}
use Rattle.std.proofs.lemmas.List.{take_all}
use Rattle.isa.proofs.SlotBytes.{bytes_at, spelled_so}
use Rattle.isa.proofs.encoding.encode.Goals as goal

pub returns : goal.returns
returns c =
    let whole = c.slots-slots.ensures.value in
    let slots = c.slots-slots.result.now in
    let all : length slots ≤ c.loop-slot.slot-index = omega arith in
    let spelled = c.loop-slot.invariant
    ∙ ap (λ xs. flat_map bytes_at xs) (take_all c.loop-slot.slot-index slots all ∙ whole) in
    spelled_so c.args.code.now c.loop-slot.bytes.items c.slots-slots.ensures.code spelled
