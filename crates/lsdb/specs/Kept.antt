-- The database of a router, and its state when it was last committed.
use Rattle.std.specs.Prelude.{ℕ, refl}
use Rattle.std.specs.Coded.{Coded, code_by, coded×, coded_ℕ}
use Rattle.std.specs.FinMap as finite
use Rattle.words.specs.Numbers.{RouterNumber}
use Rattle.lsdb.specs.Copies.{Database, DatabaseCopy}
use Rattle.lsdb.specs.Keys.{coded_key}

pub record RouterDatabase : Type 0 where
  -- the router's own Router ID
  pub router : RouterNumber
  pub present : Database
  pub committed : Database

abbrev pub coded_database : Coded DatabaseCopy → Coded RouterDatabase
coded_database x =
    code_by (ℕ × (Database × Database))
    (coded× coded_ℕ (coded× (finite.code coded_key x) (finite.code coded_key x)))
    (λ d. (d.router, (d.present, d.committed)))
    (λ p. record { router = p.0; present = p.1.0; committed = p.1.1 }) (λ _. refl)
