-- The order of keys is total, and distinguishes all keys.
use Rattle.std.proofs.Common.{◌≡◌, true}
use Rattle.std.specs.FinMap as finite
use Rattle.std.specs.Ordering.{eq_by_cmp}
use Rattle.words.specs.declared.key.Key.{Key}
use Rattle.lsdb.specs.Keys.{ByKey, key_cmp}
pub use Rattle.keyed_map.proofs.Keys.{keys_exact, keys_total}
pub use Rattle.keyed_map.proofs.Tests.{absent, equal, first, less, second}

pub tied : (q k : Key) → eq_by_cmp key_cmp q k ≡ true → q ≡ k
tied q k is = keys_exact q k (equal _ is)

-- maps with the same values are the same
pub same : {X : Type 0} (m n : ByKey X) → ((q : Key) → finite.get m q ≡ finite.get n q) → m ≡ n
same = finite.same_map keys_total keys_exact
