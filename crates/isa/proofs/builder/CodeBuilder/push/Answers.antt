use Rattle.std.proofs.Common.{◌≡◌, ◌+◌, ◌≤◌, length, sym, ◌∙◌, arith}
use Rattle.isa.specs.Code.{slots_of}
use Rattle.isa.proofs.Parts.{taken_wide, taken_short, part_pushed}
use Rattle.isa.proofs.builder.CodeBuilder.push.Goals as goal
use Rattle.isa.proofs.builder.CodeBuilder.push.Goals.{then-is_wide, else-is_wide, in-Ok, in-Err}

pub invariant_of-self : goal.invariant_of-self
invariant_of-self c =
    let takes : length (slots_of c.args.instruction) ≡ c.if-is_wide.taken =
    elim c.if-is_wide.branch [
      | then-is_wide w ↦ taken_wide c.args.instruction
          (sym c.is_wide-is_wide.ensures ∙ w.if-is_wide.true) ∙ sym w.taken-is
      | else-is_wide w ↦ taken_short c.args.instruction
          (sym c.is_wide-is_wide.ensures ∙ w.if-is_wide.false) ∙ sym w.taken-is
    ] in
    let fits : length c.self.inside.slots.items + c.if-is_wide.taken ≤ 4096 = omega arith in
    elim c.match-push_slots.branch [
      | in-Ok w ↦ part_pushed c.self.inside.slots.items c.push_slots.new.slots.items
          c.args.instruction c.if-is_wide.taken c.self.invariant c.prove_ranges.ensures takes fits
          w.in-Ok.ensures.ok
      | in-Err w ↦ rw w.in-Err.ensures.err c.self.invariant
    ]
