-- Descending numbers of ports and of transports.
use Rattle.std.specs.Prelude.{◌≡◌, ℕ, ◌+◌, List, [], ◌∷◌, length}

-- the last of the numbers is this one, and each is one more than the next
abbrev pub CountDownTo : (last : ℕ) → (numbers : List ℕ) → Type 0
CountDownTo last [] = Unit {0}
CountDownTo last (n ∷ ns) = (n ≡ last + length ns) × CountDownTo last ns
