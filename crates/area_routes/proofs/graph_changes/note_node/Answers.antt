use Rattle.std.proofs.Common.{◌≡◌, ◌∷◌, [], ◌++◌, ℕ, List, sym, subst}
use Rattle.std.specs.List.{Contains}
use Rattle.std.proofs.lemmas.List.Elements.{Contains-push}
use Rattle.candidates.proofs.GraphWhole.{one_place}
use Rattle.area_routes.proofs.graph_changes.note_node.Goals as goal

pub returns-in_ok-push-clause-noted : goal.returns-in_ok-push-clause-noted
returns-in_ok-push-clause-noted c at stands =
    let place = c.in-Some.place in
    let same : place ≡ at = one_place c.args.at.now.nodes.now c.requires c.args.node.now
    place at c.in-Some.ensures.found stands in
    let pushed : Contains (c.args.places.now.items ++ place ∷ []) at =
    subst (λ p. Contains (c.args.places.now.items ++ place ∷ []) p) same
    (Contains-push c.args.places.now.items place) in
    subst (λ (ps : List ℕ). Contains ps at) (sym c.in_ok-push.ensures.items) pushed
