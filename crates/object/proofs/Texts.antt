-- Texts in parts.
use Rattle.std.proofs.Common.{◌≡◌, ℕ, ◌+◌, ◌<◌, List, ◌++◌, length, get_or, take, sym, ap, ◌∙◌}
use Rattle.std.proofs.Common.{append_assoc}
use Rattle.std.specs.List.{flat_map}
use Rattle.std.proofs.lemmas.List.{flat_map_more, take_more}

pub three_parts : (out a b c : List ℕ) → ((out ++ a) ++ b) ++ c ≡ out ++ ((a ++ b) ++ c)
three_parts out a b c = ap (λ t. t ++ c) (append_assoc out a b) ∙ append_assoc out (a ++ b) c

-- a loop that has put one more
pub one_more_put : {X : Type 0} (text : X → List ℕ) (xs : List X) (i : ℕ)
    (out before after : List ℕ) (x d : X) → i < length xs → get_or xs i d ≡ x
    → before ≡ out ++ flat_map text (take i xs) → after ≡ before ++ text x
    → after ≡ out ++ flat_map text (take (i + 1) xs)
one_more_put text xs i out before after x d lt is so_far put =
    put ∙ (λ j. so_far j ++ text (sym is j)) ∙ flat_map_more text out (take i xs) (get_or xs i d)
    ∙ ap (λ t. out ++ flat_map text t) (sym (take_more xs i d lt))
