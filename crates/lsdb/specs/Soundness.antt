-- The invariants of the database's copies.
use Rattle.std.specs.Prelude.{◌≡◌, ℕ}
use Rattle.keyed_map.specs.Held.{Held}
use Rattle.words.specs.Numbers.{RouterNumber}
use Rattle.lsdb.specs.Copies.{DatabaseCopy}
use Rattle.lsdb.specs.Foresight.{ForeseesAll}
use Rattle.lsdb.specs.Limits.{count_own_externals}
use Rattle.lsdb.specs.declared.ages.Ages.{Ages}

-- the two numbers count the self-originated AS-external-LSAs now and when the database was last
-- committed; the ages foresee the copies of both
pub record AreKept (router : RouterNumber) (copies : Held DatabaseCopy)
    (externals committed_externals : ℕ) (ages : Ages) : Type 0 where
  pub counted : externals ≡ count_own_externals router copies.present
  pub committed_counted : committed_externals ≡ count_own_externals router copies.committed
  pub foreseen : ForeseesAll ages copies.present
  pub committed_foreseen : ForeseesAll ages copies.committed
