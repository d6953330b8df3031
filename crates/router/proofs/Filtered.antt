-- The keys that are due, in turn.
use Rattle.std.proofs.Common.{◌≡◌, Bool, true, false, cond, List, [], ◌∷◌, ◌++◌, refl, ap, ◌∙◌}
use Rattle.std.proofs.Common.{append_assoc}
use Rattle.std.specs.List.{filter}

-- the keys found so far and those still to be tested
pub next_filtered : {X : Type 0} (test : X → Bool) (x : X) (found longer rest : List X)
    → longer ≡ found ++ cond (test x) (x ∷ []) []
    → longer ++ filter test rest ≡ found ++ filter test (x ∷ rest)
next_filtered test x found longer rest is =
    ap (λ xs. xs ++ filter test rest) is
    ∙ append_assoc found (cond (test x) (x ∷ []) []) (filter test rest)
    ∙ ap (λ xs. found ++ xs) (by_test (test x))
  where
    by_test : (b : Bool) → cond b (x ∷ []) [] ++ filter test rest
        ≡ cond b (x ∷ filter test rest) (filter test rest)
    by_test true = refl
    by_test false = refl
