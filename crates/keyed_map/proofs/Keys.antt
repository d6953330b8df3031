-- The order of keys is total, and distinguishes all keys.
use Rattle.std.specs.Ordering.{nat_cmp}
use Rattle.std.specs.Cmp.{IsTotalOrder, nat_cmp_total}
use Rattle.std.specs.FinMap as finite
use Rattle.std.proofs.lemmas.Cmp.{on_total, then_total}
use Rattle.std.proofs.lemmas.Map.Lookups.{exact_pairs, exact_unsigned}
use Rattle.words.specs.declared.key.Key.{Key}
use Rattle.keyed_map.specs.Keys.{key_cmp}

pub keys_total : IsTotalOrder key_cmp
keys_total = then_total (on_total (λ (k : Key). k.ls_type) nat_cmp_total)
    (then_total (on_total (λ (k : Key). k.link_state_id) nat_cmp_total)
    (on_total (λ (k : Key). k.advertising_router) nat_cmp_total))

pub keys_exact : finite.IsAntisymmetric key_cmp
keys_exact x y is =
    let same = exact_pairs nat_cmp _ exact_unsigned
    (exact_pairs nat_cmp nat_cmp exact_unsigned exact_unsigned)
    (x.ls_type, (x.link_state_id, x.advertising_router))
    (y.ls_type, (y.link_state_id, y.advertising_router)) is in
    λ i. record {
      ls_type = (same i).0;
      link_state_id = (same i).1.0;
      advertising_router = (same i).1.1;
    }
