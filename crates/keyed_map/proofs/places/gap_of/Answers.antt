use Rattle.std.proofs.Common.{◌≡◌, inl, inr, arith, subst}
use Rattle.std.proofs.lemmas.Bool.{cases_lt}
use Rattle.keyed_map.specs.Places.{IsPlace}
use Rattle.keyed_map.proofs.Joined.{first_place}
use Rattle.keyed_map.proofs.places.gap_of.Goals as goal

pub returns-in_default : goal.returns-in_default
returns-in_default g c =
    let at = c.args.at in
    let zero : 0 ≡ at =
    elim (cases_lt 0 at) [
      | inl more ↦ absurd (c.in_default.ensures (omega (arith, more)))
      | inr none ↦ omega (arith, none)
    ] in
    subst (λ n. IsPlace c.args.pages.now n 0 0) zero
    (first_place c.args.pages.now c.requires.some)
