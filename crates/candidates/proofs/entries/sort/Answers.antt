use Rattle.std.proofs.Common.{◌≡◌, ap, rules}
use Rattle.std.specs.Ordering.{is_lt}
use Rattle.std.proofs.lemmas.Fn.{always_returns_same}
use Rattle.std.proofs.lemmas.List.Sorted.{Contains-permutation, IsPermutation-sym, ranks_by}
use Rattle.candidates.specs.Entries.{entry_cmp}
use Rattle.candidates.specs.declared.entry.AdvertisedLink.{AdvertisedLink}
use Rattle.candidates.proofs.EntryOrder.{entries_total}
use Rattle.candidates.proofs.entries.sort.Goals as goal

pub returns-clause-sorted : goal.returns-clause-sorted
returns-clause-sorted c =
    c.in_ok-sort_by.ensures.sorted (λ (x : AdvertisedLink) (y : AdvertisedLink). is_lt
    (entry_cmp x y))
    (ranks_by entries_total (λ (x : AdvertisedLink). x))
    (always_returns_same _ (λ a r. is_lt r ≡ is_lt (entry_cmp a.0.now a.1.0.now)) _
    (λ a r q k. let h : (r ≡ entry_cmp a.0.now a.1.0.now) × (q ≡ _) = search rules in
    (ap is_lt h.0, h.1)))

pub returns-clause-same : goal.returns-clause-same
returns-clause-same c e = (
  λ t. Contains-permutation _ _ e (IsPermutation-sym _ _ c.in_ok-sort_by.ensures.permutation) t,
  λ t. Contains-permutation _ _ e c.in_ok-sort_by.ensures.permutation t,
)
