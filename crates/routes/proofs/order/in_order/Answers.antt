use Rattle.std.proofs.Common.{◌≡◌, ℕ, Contains, List, ap, rules, subst, sym}
use Rattle.std.specs.Ordering.{is_lt}
use Rattle.std.proofs.lemmas.Fn.{always_returns_same}
use Rattle.std.proofs.lemmas.List.Sorted.{Contains-permutation, IsPermutation-sym, ranks_by}
use Rattle.words.specs.declared.route.Route.{Route}
use Rattle.routes.specs.Orders.{answer_cmp}
use Rattle.routes.proofs.Ordered.{answers_total}
use Rattle.routes.proofs.order.in_order.Goals as goal

pub returns-clause-sorted : goal.returns-clause-sorted
returns-clause-sorted c =
    c.sort_unstable_by.ensures.sorted (λ (x : Route × ℕ) (y : Route × ℕ). is_lt (answer_cmp x y))
    (ranks_by answers_total (λ (x : Route × ℕ). x))
    (always_returns_same _ (λ a r. is_lt r ≡ is_lt (answer_cmp a.0.now a.1.0.now)) _
    (λ a r q k. let h : (r ≡ answer_cmp a.0.now a.1.0.now) × (q ≡ _) = search rules in
    (ap is_lt h.0, h.1)))

pub returns-clause-same : goal.returns-clause-same
returns-clause-same c r word =
    let moved = c.sort_unstable_by.ensures.permutation in
    let made = c.in_ok-made.ensures.items in (
      (λ t. subst (λ (xs : List (Route × ℕ)). Contains xs (r, word)) made
          (Contains-permutation _ _ (r, word) (IsPermutation-sym _ _ moved) t)),
      (λ t. Contains-permutation _ _ (r, word) moved
          (subst (λ (xs : List (Route × ℕ)). Contains xs (r, word)) (sym made) t)),
    )
