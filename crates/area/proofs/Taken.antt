-- Drafts that are taken away one by one, and nothing that is left.
use Rattle.std.proofs.Common.{◌≡◌, ℕ, zero, suc, ◌+◌, ◌<◌, List, [], ◌∷◌, length, map, get_or, set}
use Rattle.std.proofs.Common.{refl, ap, ◌∙◌, arith}
use Rattle.adjacency.specs.Drafts.{Drafted, nothing_drafted}
use Rattle.received.specs.Links.{Link}
use Rattle.area.specs.Drafted.{nothing_at}
use Rattle.area.specs.Kept.{KeptLink}
use Rattle.area.specs.Links.{draft_of}

-- the drafts of the links from this index on
abbrev pub drafts_from : ℕ → List KeptLink → List Drafted
drafts_from i [] = []
drafts_from zero (l ∷ ls) = draft_of l ∷ drafts_from zero ls
drafts_from (suc i) (l ∷ ls) = drafts_from i ls

pub from_first : (ls : List KeptLink) → drafts_from 0 ls ≡ map draft_of ls
from_first [] = refl
from_first (l ∷ ls) = ap (λ ds. draft_of l ∷ ds) (from_first ls)

from_step : (i : ℕ) (ls : List KeptLink) (y d : KeptLink) → i < length ls
    → drafts_from i ls ≡ draft_of (get_or ls i d) ∷ drafts_from (suc i) (set ls i y)
from_step i [] y d lt = absurd (omega (arith, lt))
from_step zero (l ∷ ls) y d lt = refl
from_step (suc i) (l ∷ ls) y d lt = from_step i ls y d (omega (arith, lt))

pub from_next : (i : ℕ) (ls : List KeptLink) (y d : KeptLink) → i < length ls
    → drafts_from i ls ≡ draft_of (get_or ls i d) ∷ drafts_from (i + 1) (set ls i y)
from_next i ls y d lt =
    let next : suc i ≡ i + 1 = omega arith in
    from_step i ls y d lt ∙ ap (λ j. draft_of (get_or ls i d) ∷ drafts_from j (set ls i y)) next

pub from_last : (i : ℕ) (ls : List KeptLink) → length ls ≡ i → drafts_from i ls ≡ []
from_last i [] all = refl
from_last zero (l ∷ ls) all = absurd (omega (arith, all))
from_last (suc i) (l ∷ ls) all = from_last i ls (omega (arith, all))

abbrev pub emptied : KeptLink → Drafted
emptied k = nothing_drafted

pub nothing_each : (f : KeptLink → Link) (ls : List KeptLink)
    → map emptied ls ≡ nothing_at (map f ls)
nothing_each f [] = refl
nothing_each f (l ∷ ls) = ap (λ ds. nothing_drafted ∷ ds) (nothing_each f ls)
