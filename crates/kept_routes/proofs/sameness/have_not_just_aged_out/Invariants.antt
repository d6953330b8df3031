use Rattle.words.specs.declared.key.Key.{Key}
use Rattle.kept_routes.specs.Ages.{HasNotJustAgedOut}
use Rattle.kept_routes.proofs.Aging.{IsAmong}
use Rattle.kept_routes.proofs.sameness.have_not_just_aged_out.Given as goal

abbrev pub invariant-loop-key : goal.invariant-loop-key
invariant-loop-key l = (key : Key) → IsAmong l.keys l.key-index key
    → HasNotJustAgedOut l.last_type l.before l.moment l.db.present key
