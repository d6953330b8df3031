-- The limits on the number of LSAs in the database (this project's own).
use Rattle.std.specs.Prelude.{ℕ, ◌==◌, Bool, not, ◌&&◌, ◌||◌, nat_lt, length}
use Rattle.std.specs.List.{filter}
use Rattle.std.specs.FinMap as finite
use Rattle.words.specs.Constants.{max_lsas, max_own_externals}
use Rattle.words.specs.Numbers.{RouterNumber}
use Rattle.words.specs.declared.key.Key.{Key}
use Rattle.lsdb.specs.Copies.{Database}
use Rattle.lsdb.specs.Keys.{ByKey}

-- the key of an AS-external-LSA that this router originates
abbrev pub is_own_external : RouterNumber → Key → Bool
is_own_external router key = key.ls_type == 5 && key.advertising_router == router

abbrev pub own_externals : RouterNumber → Database → ℕ
own_externals router d = length (filter (is_own_external router) (finite.keys d))

-- an LSA with this key stays within the limits: it replaces a copy, or there are fewer than 16,384
-- LSAs and, if it is a self-originated AS-external-LSA, fewer than 4,096 of these; copies at MaxAge
-- that wait for their removal count, too
abbrev pub has_room : RouterNumber → Key → Database → Bool
has_room router key d =
    finite.contains_key d key
    || (nat_lt (finite.len d) max_lsas
    && (not (is_own_external router key) || nat_lt (own_externals router d) max_own_externals))

-- more than 16,384 LSAs, or more than 4,096 self-originated AS-external-LSAs among them
abbrev pub exceeds : RouterNumber → Database → Bool
exceeds router d =
    nat_lt max_lsas (finite.len d) || nat_lt max_own_externals (own_externals router d)

-- the number of the keys that are those of self-originated AS-external-LSAs
abbrev pub count_own_externals : {X : Type 0} → RouterNumber → ByKey X → ℕ
count_own_externals router m = finite.len (finite.retain_keys m (is_own_external router))
