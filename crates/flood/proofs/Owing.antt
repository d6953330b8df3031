-- What the neighbor at an interface owes, from the link at its index.
use Rattle.std.proofs.Common.{◌≡◌, ◌⊎◌, ℕ, ◌+◌, ◌<◌, zero, suc, List, [], ◌∷◌, Some, None, get_or}
use Rattle.std.proofs.Common.{length, map, refl, sym, ap, ◌∙◌, inl, inr, arith}
use Rattle.std.specs.Prelude.{slice_get}
use Rattle.area.specs.Kept.{KeptLink}
use Rattle.area.specs.Links.{present}
use Rattle.area.specs.Owed.{owed_on}
use Rattle.received.specs.Links.{Link, neighbor_at, neighbor_on}

none_behind : (links : List KeptLink) (place : ℕ) → length links < suc place
    → slice_get (map present links) place ≡ None
none_behind [] place few = refl
none_behind (l ∷ links) zero few = absurd (omega (arith, few))
none_behind (l ∷ links) (suc place) few = none_behind links place (omega (arith, few))

no_neighbor : (links : List KeptLink) (number : ℕ) → (number ≡ 0) ⊎ (length links < number)
    → neighbor_at number (map present links) ≡ None
no_neighbor links zero outside = refl
no_neighbor links (suc place) (inl none) = absurd (omega (arith, none))
no_neighbor links (suc place) (inr few) = ap neighbor_on (none_behind links place few)

-- there is no interface with this number
pub none_owed : (links : List KeptLink) (shown : List Link) (number : ℕ)
    → map present links ≡ shown → (number ≡ 0) ⊎ (length links < number)
    → 0 ≡ owed_on (neighbor_at number shown)
none_owed links shown number same outside =
    sym (ap owed_on (ap (neighbor_at number) (sym same) ∙ no_neighbor links number outside))

shown_get : (links : List KeptLink) (i : ℕ) (d : KeptLink) → i < length links
    → Some (get_or links i d).present ≡ slice_get (map present links) i
shown_get [] i d lt = absurd (omega (arith, lt))
shown_get (l ∷ links) zero d lt = refl
shown_get (l ∷ links) (suc i) d lt = shown_get links i d (omega (arith, lt))

-- there is one
pub one_owed : (links : List KeptLink) (shown : List Link) (number i : ℕ)
    (link d : KeptLink) (n : ℕ) → map present links ≡ shown → i < length links → number ≡ 1 + i
    → link ≡ get_or links i d → n ≡ owed_on link.present.neighbor
    → n ≡ owed_on (neighbor_at number shown)
one_owed links shown number i link d n same lt at found owed =
    let next : suc i ≡ number = omega (arith, at) in
    let there : Some link.present ≡ slice_get (map present links) i =
    ap (λ (l : KeptLink). Some l.present) found ∙ shown_get links i d lt in
    let all : link.present.neighbor ≡ neighbor_at number shown =
    ap neighbor_on there ∙ ap (λ m. neighbor_at m (map present links)) next
    ∙ ap (neighbor_at number) same in
    owed ∙ ap owed_on all
