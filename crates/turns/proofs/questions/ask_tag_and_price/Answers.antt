use Rattle.std.proofs.Common.{List, subst}
use Rattle.words.specs.declared.route.TableRow.{TableRow}
use Rattle.turns.specs.Askers.{asker_state}
use Rattle.turns.specs.Turns.{AreBeside}
use Rattle.turns.proofs.Askers.{later_trans}
use Rattle.turns.proofs.questions.ask_tag_and_price.Goals as goal

pub returns-in-Ok-clause-both : goal.returns-in-Ok-clause-both
returns-in-Ok-clause-both g c =
    let old = asker_state c.args.asker.now c.args.seat.now in
    let between = asker_state c.tag.new.asker c.tag.new.seat in
    let new = asker_state c.price.new.asker c.price.new.seat in
    let P : List TableRow → Type 0 =
    λ rows. AreBeside old new c.args.external.now c.args.moment rows c.in_ok-tagged.tagged
    c.in-Ok.priced in
    subst P c.as_slice-rows.ensures.value
    (between, c.in_ok-tagged.ensures.answer, c.in-Ok.ensures.answer)

pub returns-in-Ok-clause-later : goal.returns-in-Ok-clause-later
returns-in-Ok-clause-later g c =
    later_trans (asker_state c.args.asker.now c.args.seat.now)
    (asker_state c.tag.new.asker c.tag.new.seat)
    (asker_state c.price.new.asker c.price.new.seat) c.tag.ensures.later c.price.ensures.later

pub returns-in-Err-clause-later : goal.returns-in-Err-clause-later
returns-in-Err-clause-later g c =
    later_trans (asker_state c.args.asker.now c.args.seat.now)
    (asker_state c.tag.new.asker c.tag.new.seat)
    (asker_state c.price.new.asker c.price.new.seat) c.tag.ensures.later c.price.ensures.later
