use Rattle.std.proofs.Common.{◌∙◌, sym, ap, arith}
use Rattle.asm.specs.Labels.{place_in}
use Rattle.asm.proofs.Places.{label_noted, no_label_noted}
use Rattle.asm.proofs.labels.places_of.Goals as goal
use Rattle.asm.proofs.labels.places_of.Goals.{then-gives_label+in_ok-note_place, else-gives_label}

pub loop-at-preserved : goal.loop-at-preserved
loop-at-preserved c = record {
  looks_on = λ word.
      elim c.if-gives_label.branch [
        | then-gives_label+in_ok-note_place w ↦
            label_noted _ (place_in c.loop-at.places word) (place_in c.if-gives_label.places word)
            c.loop-at.at c.loop-at.slot c.slots_in-slot.result c.args.lines.now c.args.names.now
            word c.index-lines-at.result c.index-lines-at-in-loop-at.result
            (omega arith) c.requires c.index-lines-at.is c.index-lines-at-in-loop-at.is
            c.slots_in-slot.ensures.value (sym c.gives_label.ensures ∙ w.if-gives_label.true)
            (c.loop-at.invariant.looks_on word)
            (ap (λ m. place_in m word) w.places-is ∙ w.in_ok-note_place.ensures word)
        | else-gives_label w ↦
            no_label_noted _ (place_in c.loop-at.places word)
            (place_in c.if-gives_label.places word) c.loop-at.at c.loop-at.slot
            c.slots_in-slot.result c.args.lines.now c.args.names.now word
            c.index-lines-at.result c.index-lines-at-in-loop-at.result
            (omega arith) c.requires c.index-lines-at.is c.index-lines-at-in-loop-at.is
            c.slots_in-slot.ensures.value (sym c.gives_label.ensures ∙ w.if-gives_label.false)
            (c.loop-at.invariant.looks_on word)
            (ap (λ m. place_in m word) w.places-is)
      ];
  few = omega (arith, c.slots_in-slot.ensures.most, c.loop-at.invariant.few);
}
