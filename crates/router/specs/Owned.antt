-- The external destinations that a router announces.
use Rattle.std.specs.Prelude.{◌≡◌, ◌<◌, ◌^◌, Some}
use Rattle.std.specs.FinMap as finite
use Rattle.words.specs.Numbers.{RouterNumber}
use Rattle.words.specs.declared.key.Key.{Key}
use Rattle.words.specs.declared.route.External.{External}
use Rattle.lsdb.specs.Keys.{ByKey}
use Rattle.event_rules.specs.Originations.{external_key}

-- the destination has the key of its AS-external-LSA, and a metric of 24 bits
pub record IsWithItsKey (id : RouterNumber) (k : Key) (e : External) : Type 0 where
  pub key : k ≡ external_key id e.prefix
  pub metric : e.metric < 2 ^ 24

abbrev pub AreOwn : RouterNumber → ByKey External → Type 0
AreOwn id announced =
    (key : Key) (e : External) → finite.get announced key ≡ Some e → IsWithItsKey id key e
