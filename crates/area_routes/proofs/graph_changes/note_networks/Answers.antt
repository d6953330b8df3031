use Rattle.std.proofs.Common.{◌≡◌, ◌∷◌, [], ◌++◌, ℕ, inl, inr, subst}
use Rattle.std.proofs.Common.{arith}
use Rattle.std.specs.List.{Contains}
use Rattle.std.proofs.lemmas.Bool.{cases_lt}
use Rattle.std.proofs.lemmas.List.Elements.{Contains-append_left, Contains-push}
use Rattle.area_routes.proofs.graph_changes.note_networks.Goals as goal

pub loop-place-init : goal.loop-place-init
loop-place-init c = record {
  kept = λ place among. among;
  noted = λ k low high. absurd (omega (arith, low, high));
}

pub loop-place-preserved : goal.loop-place-preserved
loop-place-preserved c =
    let old = c.loop-place.places.items in
    let place = c.loop-place.place in
    let new = old ++ place ∷ [] in
    let more : (k : ℕ) → Contains old k → Contains new k =
    λ k. Contains-append_left old (place ∷ []) k in
    rw c.in_ok-push.ensures.items (record {
      kept = λ k among. more k (c.loop-place.invariant.kept k among);
      noted = λ k low high. elim (cases_lt k place) [
        | inl lt ↦ more k (c.loop-place.invariant.noted k low lt)
        | inr past ↦
            let is : place ≡ k = omega (arith, past, high) in
            subst (Contains new) is (Contains-push old place)
      ];
    })

pub returns-clause-noted : goal.returns-clause-noted
returns-clause-noted c by at here =
    c.loop-place.invariant.noted at (c.index_range_of-first.ensures.first by at here)
    (omega (arith, c.index_range_of-first.ensures.end by at here, c.loop-place-test.false))
