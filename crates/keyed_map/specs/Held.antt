-- A map by LSA key, and its state when it was last committed.
use Rattle.std.specs.Prelude.{refl}
use Rattle.std.specs.Coded.{Coded, code_by, coded×}
use Rattle.std.specs.FinMap as map
use Rattle.keyed_map.specs.Keys.{ByKey, coded_key}

pub record Held (X : Type 0) : Type 0 where
  pub present : ByKey X
  pub committed : ByKey X

abbrev pub coded_held : {X : Type 0} → Coded X → Coded (Held X)
coded_held {X} x =
    code_by (ByKey X × ByKey X) (coded× (map.code coded_key x) (map.code coded_key x))
    (λ h. (h.present, h.committed)) (λ p. record { present = p.0; committed = p.1 }) (λ _. refl)
