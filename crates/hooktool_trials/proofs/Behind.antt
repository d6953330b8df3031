-- Records with one more behind them.
use Rattle.std.proofs.Common.{◌≡◌, ◌≤◌, ℕ, ◌+◌, arith, List, [], ◌∷◌, ◌++◌, length, refl, subst}
use Rattle.std.proofs.Common.{sym}
use Rattle.std.proofs.lemmas.Grind.{common_steps}
use Rattle.hooktool_trials.specs.Captures.{AreRecords, IsRecordAt}
use Rattle.hooktool_trials.specs.declared.captures.file.Record.{Record}
use Rattle.hooktool_trials.specs.declared.captures.number.Order.{Order}

pub one_more : (order : Order) (bytes : List ℕ) (from to : ℕ) (records : List Record) (it : Record)
    → AreRecords order bytes from records to → IsRecordAt order bytes to it
    → AreRecords order bytes from (records ++ it ∷ []) (to + 16 + length it.frame.now)
one_more order bytes from to [] it same is = (
  subst (λ at. IsRecordAt order bytes at it) (sym same) is,
  subst (λ at. at + 16 + length it.frame.now ≡ to + 16 + length it.frame.now) (sym same) refl,
)
one_more order bytes from to (first ∷ others) it (begins, more) is =
    (begins, one_more order bytes (from + 16 + length first.frame.now) to others it more is)

-- A record ends in the file.
pub ends_inside : (order : Order) (bytes : List ℕ) (at : ℕ) (it : Record)
    → IsRecordAt order bytes at it → at + 16 + length it.frame.now ≤ length bytes
ends_inside order bytes at it is = rw is.frame (grind (arith, common_steps, is.in_file))
