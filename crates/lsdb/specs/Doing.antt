-- What a call does in an event to the database.
--
-- It errors only if an allocation is refused, and the caller then rolls back. Whatever it answers,
-- what was committed stays the same, and so does the Router ID.
use Rattle.std.specs.Prelude.{◌≡◌, OnOk, Result}
use Rattle.lsdb.specs.Copies.{Database}
use Rattle.lsdb.specs.Kept.{RouterDatabase}

-- the database becomes what `after` says
pub record DatabaseDoes {X E : Type 0} (after : Database → Database) (old new : RouterDatabase)
    (result : Result X E) : Type 0 where
  pub ok : OnOk result (new.present ≡ after old.present)
  pub committed : new.committed ≡ old.committed
  pub router : new.router ≡ old.router
