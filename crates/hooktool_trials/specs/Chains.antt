-- Steps one after the other.
use Rattle.std.specs.Prelude.{◌≡◌, List, [], ◌∷◌}

-- The things in turn lead from one state to another, each from the one that the thing before left.
abbrev pub Chain : {A : Type 0} {S : Type 0} → (A → S → S → Type 0) → List A → S → S → Type 0
Chain {A} {S} Leads [] old new = old ≡ new
Chain {A} {S} Leads (first ∷ others) old new =
    (next : S) × Leads first old next × Chain Leads others next new
