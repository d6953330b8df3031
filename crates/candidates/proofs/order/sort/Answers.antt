use Rattle.std.proofs.Common.{◌≡◌, ap, rules}
use Rattle.std.specs.Ordering.{is_lt}
use Rattle.std.proofs.lemmas.Fn.{always_returns_same}
use Rattle.std.proofs.lemmas.List.Sorted.{Contains-permutation, IsPermutation-sym, ranks_by}
use Rattle.routes.specs.Best.{offer_cmp}
use Rattle.routes.specs.declared.offer.Offer.{Offer}
use Rattle.routes.proofs.OneMore.{offers_total}
use Rattle.candidates.proofs.order.sort.Goals as goal

pub returns-clause-sorted : goal.returns-clause-sorted
returns-clause-sorted c =
    c.sort_unstable_by.ensures.sorted (λ (x : Offer) (y : Offer). is_lt (offer_cmp x y))
    (ranks_by offers_total (λ (x : Offer). x))
    (always_returns_same _ (λ a r. is_lt r ≡ is_lt (offer_cmp a.0.now a.1.0.now)) _
    (λ a r q k. let h : (r ≡ offer_cmp a.0.now a.1.0.now) × (q ≡ _) = search rules in
    (ap is_lt h.0, h.1)))

pub returns-clause-same : goal.returns-clause-same
returns-clause-same c o = (
  λ t. Contains-permutation _ _ o (IsPermutation-sym _ _ c.sort_unstable_by.ensures.permutation) t,
  λ t. Contains-permutation _ _ o c.sort_unstable_by.ensures.permutation t,
)
