-- The items of a list from an index on, one by one.
use Rattle.std.proofs.Common.{◌≡◌, ℕ, zero, suc, ◌+◌, ◌<◌, List, [], ◌∷◌, length, get_or}
use Rattle.std.proofs.Common.{refl, ap, ◌∙◌, arith}
use Rattle.area.proofs.Acknowledged.{from}

from_step : {X : Type 0} (i : ℕ) (xs : List X) (d : X) → i < length xs
    → from i xs ≡ get_or xs i d ∷ from (suc i) xs
from_step zero [] d lt = absurd (omega (arith, lt))
from_step zero (x ∷ xs) d lt = refl
from_step (suc i) [] d lt = absurd (omega (arith, lt))
from_step (suc i) (x ∷ xs) d lt = from_step i xs d (omega (arith, lt))

pub from_next : {X : Type 0} (i : ℕ) (xs : List X) (d : X) → i < length xs
    → from i xs ≡ get_or xs i d ∷ from (i + 1) xs
from_next i xs d lt =
    let next : suc i ≡ i + 1 = omega arith in
    from_step i xs d lt ∙ ap (λ j. get_or xs i d ∷ from j xs) next

pub from_end : {X : Type 0} (i : ℕ) (xs : List X) → length xs ≡ i → from i xs ≡ []
from_end zero [] all = refl
from_end zero (x ∷ xs) all = absurd (omega (arith, all))
from_end (suc i) [] all = refl
from_end (suc i) (x ∷ xs) all = from_end i xs (omega (arith, all))
