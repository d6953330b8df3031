use Rattle.words.specs.declared.key.Key.{Key}
use Rattle.kept_routes.specs.Externals.{IsOldOrLeftOut}
use Rattle.kept_routes.proofs.Aging.{IsAmong}
use Rattle.kept_routes.proofs.externals.have_not_just_aged_out_or_are_left_out.Given as goal

abbrev pub invariant-loop-key : goal.invariant-loop-key
invariant-loop-key l =
    (key : Key) → IsAmong l.keys l.key-index key
    → IsOldOrLeftOut l.before l.rule.moment l.rule.db.now.present l.rule.walk.now key
