use Rattle.std.proofs.Common.{◌≡◌, drop}
use Rattle.event_rules.specs.Routers.{are_distinct}
use Rattle.flood.proofs.profile.are_distinct.Given as goal

abbrev pub invariant-loop-i : goal.invariant-loop-i
invariant-loop-i l = are_distinct (drop l.i l.interfaces) ≡ are_distinct l.interfaces
