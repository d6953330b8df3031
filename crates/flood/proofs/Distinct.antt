-- Which configurations are valid: one more interface, compared with those after it.
use Rattle.std.proofs.Common.{◌≡◌, ℕ, ◌+◌, ◌<◌, true, false, not, ◌&&◌, eqb, List, ◌∷◌, length}
use Rattle.std.proofs.Common.{get_or, drop, sym, ap, ◌∙◌}
use Rattle.std.specs.List.{list_any}
use Rattle.std.proofs.lemmas.List.{at_drop_more}
use Rattle.adjacency.specs.declared.interface.Interface.{Interface}
use Rattle.event_rules.specs.Routers.{are_distinct}

distinct_here : (xs : List Interface) (i : ℕ) (x : Interface) → i < length xs → x ≡ get_or xs i x
    → are_distinct (drop i xs) ≡ (not (list_any (λ j. eqb j.address x.address) (drop (i + 1) xs)) &&
    are_distinct (drop (i + 1) xs))
distinct_here xs i x lt is = at_drop_more are_distinct xs i x lt
    ∙ ap (λ y. are_distinct (y ∷ drop (i + 1) xs)) (sym is)

pub distinct_more : (xs : List Interface) (i : ℕ) (x : Interface) → i < length xs
    → x ≡ get_or xs i x → list_any (λ j. eqb j.address x.address) (drop (i + 1) xs) ≡ false
    → are_distinct (drop i xs) ≡ are_distinct (drop (i + 1) xs)
distinct_more xs i x lt is none = distinct_here xs i x lt is
    ∙ ap (λ b. not b && are_distinct (drop (i + 1) xs)) none

pub distinct_fails : (xs : List Interface) (i : ℕ) (x : Interface) → i < length xs
    → x ≡ get_or xs i x → list_any (λ j. eqb j.address x.address) (drop (i + 1) xs) ≡ true
    → are_distinct (drop i xs) ≡ false
distinct_fails xs i x lt is one = distinct_here xs i x lt is
    ∙ ap (λ b. not b && are_distinct (drop (i + 1) xs)) one
