-- A database within its limits has at most 16,384 LSAs.
use Rattle.std.proofs.Common.{◌≡◌, ℕ, ◌≤◌, Bool, true, false, ◌||◌, ltb-false, refl}
use Rattle.std.specs.FinMap as finite
use Rattle.words.specs.Constants.{max_lsas}
use Rattle.lsdb.specs.Copies.{Database}
use Rattle.lsdb.specs.Limits.{exceeds}

neither : (a b : Bool) → (a || b) ≡ false → a ≡ false
neither true b e = e
neither false b e = refl

pub within : (router : ℕ) (db : Database) → exceeds router db ≡ false → finite.len db ≤ max_lsas
within router db e = ltb-false max_lsas (finite.len db) (neither _ _ e)
