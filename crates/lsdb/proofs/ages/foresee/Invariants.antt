use Rattle.std.proofs.Common.{◌≡◌, false}
use Rattle.std.specs.FinMap as finite
use Rattle.std.specs.List.{list_any}
use Rattle.std.specs.Ordering.{eq_by_cmp}
use Rattle.words.specs.declared.key.Key.{Key}
use Rattle.lsdb.specs.Foresight.{Foresees}
use Rattle.lsdb.specs.Keys.{key_cmp}
use Rattle.lsdb.proofs.ages.foresee.Given as goal

-- the copy of each key that isn't still to be visited is foreseen
abbrev pub invariant-loop-key : goal.invariant-loop-key
invariant-loop-key l =
    (q : Key) → list_any (eq_by_cmp key_cmp q) l.key-iterator ≡ false
    → Foresees l.ages q (finite.get l.copies.present q)
