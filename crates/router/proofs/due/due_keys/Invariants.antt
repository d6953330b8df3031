use Rattle.std.proofs.Common.{◌≡◌, ◌++◌}
use Rattle.std.specs.List.{filter}
use Rattle.event_rules.specs.Originations.{due_keys, is_due}
use Rattle.router.proofs.due.due_keys.Given as goal

-- the keys found so far, and the due ones of the keys still to be tested
abbrev pub invariant-loop-key : goal.invariant-loop-key
invariant-loop-key l =
    l.due.items ++ filter (is_due l.moment l.router.present) l.key-iterator
    ≡ due_keys l.moment l.router.present
