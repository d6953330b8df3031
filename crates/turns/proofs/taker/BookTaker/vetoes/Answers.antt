use Rattle.hooks.specs.Known.{known_to}
use Rattle.turns.specs.Askers.{asker_state}
use Rattle.turns.proofs.Askers.{later_asked_all}
use Rattle.turns.proofs.Unread.{first_unread}
use Rattle.turns.proofs.taker.BookTaker.vetoes.Goals as goal

pub returns-clause-lacking : goal.returns-clause-lacking
returns-clause-lacking g c =
    first_unread (known_to c.args.asker.now) (known_to c.vetoes.new.self) c.args.seat.now
    c.vetoes.new.seat c.args.moment c.args.rows.now c.args.routes.now c.vetoes.result
    c.vetoes.ensures.unread

pub returns-clause-later : goal.returns-clause-later
returns-clause-later g c =
    later_asked_all (λ answers. answers.items) (asker_state c.args.asker.now c.args.seat.now)
    (asker_state c.vetoes.new.self c.vetoes.new.seat) c.args.moment c.args.rows.now
    c.args.routes.now c.vetoes.result c.vetoes.ensures.unread c.vetoes.ensures.answered
    c.vetoes.ensures.short
