-- The order of networks is total, and networks that compare equal are one.
use Rattle.std.proofs.Common.{◌≡◌}
use Rattle.std.specs.Cmp.{IsTotalOrder, nat_cmp_total}
use Rattle.std.specs.Ordering.{nat_cmp}
use Rattle.std.specs.declared.cmp.Ordering.TheVariants.{Equal}
use Rattle.std.proofs.lemmas.Cmp.{on_total, then_total}
use Rattle.std.proofs.lemmas.Map.Lookups.{exact_pairs, exact_unsigned}
use Rattle.words.specs.Orders.{network_cmp}
use Rattle.words.specs.Prefixes.{Network}

pub networks_total : IsTotalOrder network_cmp
networks_total = then_total (on_total (λ (n : Network). n.address) nat_cmp_total)
    (on_total (λ (n : Network). n.length) nat_cmp_total)

pub networks_exact : (a b : Network) → network_cmp a b ≡ Equal → a ≡ b
networks_exact a b e =
    let same = exact_pairs nat_cmp nat_cmp exact_unsigned exact_unsigned (a.address, a.length)
    (b.address, b.length) e in
    λ i. record { address = (same i).0; length = (same i).1 }
