use Rattle.std.proofs.Common.{get_or, refl}
use Rattle.flood.proofs.Forgotten.{beyond, set_forgotten}
use Rattle.flood.proofs.book.answers.forget_answers.Goals as goal

pub returns-then-place-journal : goal.returns-then-place-journal
returns-then-place-journal c =
    set_forgotten c.args.journal.now c.args.place
    (get_or c.args.journal.now c.args.place c.index-journal-place.result)
    c.index-journal-place.result
    c.forget.new.event c.if-place-journal.true refl c.forget.ensures

pub returns-else-place-journal : goal.returns-else-place-journal
returns-else-place-journal c = beyond c.args.journal.now c.args.place c.if-place-journal.false
