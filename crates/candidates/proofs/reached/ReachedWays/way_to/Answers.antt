use Rattle.std.proofs.Common.{◌≡◌, ℕ, List, None, Some, length, slice_get, arith, refl, sym, ◌∙◌}
use Rattle.std.proofs.Common.{ap, subst}
use Rattle.std.proofs.lemmas.Option.{get_or_from_slice_get, slice_get_read}
use Rattle.routes.specs.declared.node.Node.{Node}
use Rattle.candidates.proofs.NodePlaces.{beside, beside_none}
use Rattle.candidates.proofs.reached.ReachedWays.way_to.Goals as goal
use Rattle.candidates.specs.Reached.{NodeWays, way_in}

pub returns-in_err-at : goal.returns-in_err-at
returns-in_err-at c =
    let P : List Node → Type 0 = λ nodes. (at : ℕ) → slice_get nodes at ≡ Some c.args.node.now
    → ⊥ in
    c.from_residual.ensures
    ∙ sym (sym (ap (λ (r : NodeWays). way_in r c.args.node.now) c.self.view_is)
    ∙ beside_none c.self.inside.nodes.items c.self.inside.ways.items c.args.node.now
    (subst P c.deref.ensures.value c.in_err-at.ensures.missing))

pub returns : goal.returns
returns c =
    let ways = c.self.inside.ways.items in
    let at = c.in_ok-at.at in
    let P : List Node → Type 0 = λ nodes. slice_get nodes at ≡ Some c.args.node.now in
    let read = get_or_from_slice_get ways at c.index.result.now None
    (slice_get_read ways (length ways) at c.index.result.now refl
    (omega (
      arith,
      c.in_ok-at.ensures.within,
      ap length c.deref.ensures.value,
      c.self.invariant.count,
    )) c.index.ensures) in
    sym (sym (ap (λ (r : NodeWays). way_in r c.args.node.now) c.self.view_is)
    ∙ beside c.self.inside.nodes.items ways c.self.invariant.ascend c.args.node.now at
    (subst P c.deref.ensures.value c.in_ok-at.ensures.found) ∙ read)
