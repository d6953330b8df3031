-- A test of each link, up to the first that passes.
use Rattle.std.proofs.Common.{◌≡◌, ℕ, zero, suc, ◌+◌, ◌<◌, Bool, true, false, ◌||◌, List, [], ◌∷◌}
use Rattle.std.proofs.Common.{length, map, get_or, refl, ap, sym, ◌∙◌, arith}
use Rattle.std.specs.List.{list_any}
use Rattle.std.specs.Prelude.{Option, None, Some}
use Rattle.words.specs.declared.key.Key.{Key}
use Rattle.adjacency.specs.Asked as neighbor
use Rattle.adjacency.specs.Neighbors.{Neighbor}
use Rattle.received.specs.Links.{has_retransmission, neighbor_is_exchange_or_loading}

pub exchanging_is : (o : Option Neighbor)
    → neighbor.neighbor_is_exchange_or_loading o ≡ neighbor_is_exchange_or_loading o
exchanging_is None = refl
exchanging_is (Some n) = refl

pub retransmits_is : (key : Key) (o : Option Neighbor)
    → neighbor.has_retransmission key o ≡ has_retransmission key o
retransmits_is key None = refl
retransmits_is key (Some n) = refl

pub either_true : (a b : Bool) → a ≡ true → a ≡ (a || b)
either_true a b is = is ∙ sym (ap (λ c. c || b) is)

pub either_false : (a b : Bool) → a ≡ false → b ≡ (a || b)
either_false a b is = sym (ap (λ c. c || b) is)

-- p is the view of an item, t the test of the view
module _ {X L : Type 0} (p : X → L) (t : L → Bool) where
  -- some item from this one on passes
  abbrev pub any_from : ℕ → List X → Bool
  any_from i [] = false
  any_from zero (x ∷ xs) = t (p x) || any_from zero xs
  any_from (suc i) (x ∷ xs) = any_from i xs

  pub any_begin : (xs : List X) → any_from 0 xs ≡ list_any t (map p xs)
  any_begin [] = refl
  any_begin (x ∷ xs) = ap (λ b. t (p x) || b) (any_begin xs)

  any_step : (i : ℕ) (xs : List X) (d : X) → i < length xs
      → any_from i xs ≡ (t (p (get_or xs i d)) || any_from (suc i) xs)
  any_step i [] d lt = absurd (omega (arith, lt))
  any_step zero (x ∷ xs) d lt = refl
  any_step (suc i) (x ∷ xs) d lt = any_step i xs d (omega (arith, lt))

  pub any_here : (i : ℕ) (xs : List X) (d : X) → i < length xs → t (p (get_or xs i d)) ≡ true
      → any_from i xs ≡ true
  any_here i xs d lt is = any_step i xs d lt ∙ ap (λ b. b || any_from (suc i) xs) is

  pub any_next : (i : ℕ) (xs : List X) (d : X) → i < length xs → t (p (get_or xs i d)) ≡ false
      → any_from i xs ≡ any_from (i + 1) xs
  any_next i xs d lt is =
      let next : suc i ≡ i + 1 = omega arith in
      any_step i xs d lt ∙ ap (λ b. b || any_from (suc i) xs) is ∙ ap (λ j. any_from j xs) next

  pub any_end : (i : ℕ) (xs : List X) → length xs ≡ i → any_from i xs ≡ false
  any_end i [] all = refl
  any_end zero (x ∷ xs) all = absurd (omega (arith, all))
  any_end (suc i) (x ∷ xs) all = any_end i xs (omega (arith, all))
