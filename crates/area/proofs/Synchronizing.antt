-- The neighbor's state in a link's view, as the definitions read it.
use Rattle.std.proofs.Common.{◌≡◌, ℕ, zero, suc, ◌+◌, ◌<◌, List, [], ◌∷◌, length, map, get_or}
use Rattle.std.proofs.Common.{refl, ap, ◌∙◌, arith}
use Rattle.std.specs.List.{slice_get}
use Rattle.std.specs.Prelude.{Some}
use Rattle.received.specs.Links.{neighbor_at, neighbor_on}
use Rattle.area.specs.Kept.{KeptLink}
use Rattle.area.specs.Links.{present}

-- the link at an index
pub shown_get : (ls : List KeptLink) (i : ℕ) (d : KeptLink) → i < length ls
    → Some (get_or ls i d).present ≡ slice_get (map present ls) i
shown_get [] i d lt = absurd (omega (arith, lt))
shown_get (l ∷ ls) zero d lt = refl
shown_get (l ∷ ls) (suc i) d lt = shown_get ls i d (omega (arith, lt))

pub shown_neighbor : (ls : List KeptLink) (i k : ℕ) (d : KeptLink) → i < length ls → k ≡ 1 + i
    → (get_or ls i d).present.neighbor ≡ neighbor_at k (map present ls)
shown_neighbor ls i k d lt at =
    let next : suc i ≡ k = omega (arith, at) in
    ap neighbor_on (shown_get ls i d lt) ∙ ap (λ m. neighbor_at m (map present ls)) next
