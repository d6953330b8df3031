use Rattle.std.proofs.Common.{◌≡◌, subst, sym, ap, length, drop, string_bytes, arith, ◌<◌, ◌+◌}
use Rattle.std.proofs.Common.{◌++◌}
use Rattle.std.specs.List.{flat_map}
use Rattle.isa.specs.declared.code.Slot.TheVariants.{Start, SecondHalf}
use Rattle.asm.specs.Listing.{text_of, slot_lines}
use Rattle.asm.proofs.Codes.{CodeSoFar, item_at, start_step, second_step}
use Rattle.asm.proofs.Lines.{start_written, second_written}
use Rattle.asm.proofs.writing.write_code.Goals.{in-Start+in_ok-put-in-Start, in-SecondHalf}
use Rattle.asm.proofs.writing.write_code.Goals as goal

pub loop-slot-preserved : goal.loop-slot-preserved
loop-slot-preserved c =
    let code = c.args.code.now in
    let at = c.loop-slot.slot-index in
    let items = c.slots-slot-items.result.now in
    let same = c.slots-slot-items.ensures.value in
    let within : at < length code = omega (arith, c.loop-slot-test.true, ap length same) in
    let whole = string_bytes c.args.text.now ++ text_of (flat_map slot_lines code) in
    record {
      says = λ hook rank h. elim c.match-slot.branch [
        | in-Start+in_ok-put-in-Start w ↦ subst
            (λ t. CodeSoFar (string_bytes t) hook rank code (at + 1)) (sym w.text-is)
            (start_step (string_bytes c.loop-slot.text) (string_bytes w.put.new.text) hook rank code
            at w.line_of.result w.in-Start.instruction within
            c.slots-slot-items.ensures.code.most
            (item_at items code at c.slot-item.result (Start w.in-Start.instruction) c.slot-item.is
            w.in-Start.is same) w.in_ok-put-in-Start.ensures.says w.line_of.ensures.again
            (c.loop-slot.invariant.says hook rank h))
        | in-SecondHalf w ↦ subst (λ t. CodeSoFar (string_bytes t) hook rank code (at + 1))
            (sym w.text-is)
            (second_step (string_bytes c.loop-slot.text) hook rank code at within
            (item_at items code at c.slot-item.result SecondHalf c.slot-item.is
            w.in-SecondHalf.is same) (c.loop-slot.invariant.says hook rank h))
      ];
      text = elim c.match-slot.branch [
        | in-Start+in_ok-put-in-Start w ↦ subst
            (λ t. string_bytes t ++ text_of (flat_map slot_lines (drop (at + 1) code)) ≡ whole)
            (sym w.text-is)
            (start_written (string_bytes c.loop-slot.text) (string_bytes w.put.new.text) whole code
            at w.line_of.result w.in-Start.instruction within
            (item_at items code at c.slot-item.result (Start w.in-Start.instruction) c.slot-item.is
            w.in-Start.is same) w.line_of.ensures.line w.in_ok-put-in-Start.ensures.text
            c.loop-slot.invariant.text)
        | in-SecondHalf w ↦ subst (λ t. string_bytes t
            ++ text_of (flat_map slot_lines (drop (at + 1) code)) ≡ whole) (sym w.text-is)
            (second_written (string_bytes c.loop-slot.text) whole code at within
            (item_at items code at c.slot-item.result SecondHalf c.slot-item.is
            w.in-SecondHalf.is same) c.loop-slot.invariant.text)
      ];
    }
