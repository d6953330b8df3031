-- Rows of the routing table, read of words.
use Rattle.std.proofs.Common.{◌≡◌, ◌∙◌, ◌<◌, ℕ, List, ◌∷◌, ◌++◌, Option, Some, None}
use Rattle.std.proofs.Common.{ap, subst, length, get_or, lit<}
use Rattle.std.specs.Prelude.{MatchOption, decimal}
use Rattle.std.proofs.lemmas.Str.Pattern.{IsSplitOnceResult, split_after, split_parts}
use Rattle.words.proofs.Addresses.{high_in_prefix}
use Rattle.words.specs.Prefixes.{Network}
use Rattle.words.specs.Text.{prefix_text}
use Rattle.words.specs.declared.route.TableRow.{TableRow}
use Rattle.hooktool_trials.specs.Words.{IsRow}
use denote.Ref.{Bor}

abbrev Cut : Type 0
Cut = Option (Bor (List ℕ) × Bor (List ℕ))

cut : (w : List ℕ) (r : Cut) → IsSplitOnceResult 61 w r → (row : TableRow) → IsRow w row
    → MatchOption r ⊥ (λ x. (x.0.now ≡ prefix_text row.prefix) × (x.1.now ≡ decimal row.cost))
cut w r h row is = split_after 61 w (prefix_text row.prefix) (decimal row.cost) r h (lit< tt) is.0
    (high_in_prefix 61 row.prefix (lit< tt) is.1.1)

pub no_row : (w : List ℕ) (r : Cut) → IsSplitOnceResult 61 w r → r ≡ None → (row : TableRow)
    → IsRow w row → ⊥
no_row w r h none row is =
    subst (λ (q : Cut). MatchOption q ⊥
    (λ x. (x.0.now ≡ prefix_text row.prefix) × (x.1.now ≡ decimal row.cost))) none
    (cut w r h row is)

pub row_parts : (w : List ℕ) (r : Cut) (x : Bor (List ℕ) × Bor (List ℕ)) → IsSplitOnceResult 61 w r
    → r ≡ Some x → (row : TableRow) → IsRow w row
    → (x.0.now ≡ prefix_text row.prefix) × (x.1.now ≡ decimal row.cost)
row_parts w r x h some row is =
    subst (λ (q : Cut). MatchOption q ⊥
    (λ x. (x.0.now ≡ prefix_text row.prefix) × (x.1.now ≡ decimal row.cost))) some
    (cut w r h row is)

pub row_spelled : (w : List ℕ) (r : Cut) (x : Bor (List ℕ) × Bor (List ℕ))
    → IsSplitOnceResult 61 w r → r ≡ Some x → (n : Network) (cost : ℕ) → x.0.now ≡ prefix_text n
    → x.1.now ≡ decimal cost → w ≡ prefix_text n ++ 61 ∷ decimal cost
row_spelled w r x h some n cost e f =
    let parts : (w ≡ x.0.now ++ (61 ∷ x.1.now))
    × ((i : ℕ) → i < length x.0.now → get_or x.0.now i 0 ≡ 61 → ⊥) =
    subst (λ (q : Cut). MatchOption q ((i : ℕ) → i < length w → get_or w i 0 ≡ 61 → ⊥)
    (λ x. (w ≡ x.0.now ++ (61 ∷ x.1.now))
    × ((i : ℕ) → i < length x.0.now → get_or x.0.now i 0 ≡ 61 → ⊥))) some
    (split_parts 61 w r h (lit< tt)) in
    parts.0 ∙ ap (λ (t : List ℕ). t ++ (61 ∷ x.1.now)) e
    ∙ ap (λ (t : List ℕ). prefix_text n ++ (61 ∷ t)) f
