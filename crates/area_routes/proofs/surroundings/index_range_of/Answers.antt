use Rattle.std.proofs.Common.{◌≡◌, ◌<◌, ◌≤◌, ℕ, false, length, List, Some, slice_get, refl, sym}
use Rattle.std.proofs.Common.{◌∙◌, subst, arith}
use Rattle.std.proofs.lemmas.Bool.{false≢true}
use Rattle.std.proofs.lemmas.Grind.{common_steps}
use Rattle.std.proofs.lemmas.Option.{slice_get_read, slice_get_within}
use Rattle.std.specs.declared.cmp.Ordering.TheVariants.{Less}
use Rattle.candidates.specs.Nodes.{node_cmp}
use Rattle.routes.specs.declared.node.Node.{Node}
use Rattle.routes.specs.declared.node.Node.TheVariants.{ANetwork}
use Rattle.area_routes.specs.GraphLinks.{IsOfId}
use Rattle.area_routes.proofs.Places.{none_earlier, none_later}
use Rattle.area_routes.proofs.surroundings.index_range_of.Goals as goal

-- none before this index is before the network
abbrev AreBefore : List Node → (id first low : ℕ) → Type 0
AreBefore nodes id first low = (k : ℕ) (other : Node) → slice_get nodes k ≡ Some other → k < first
    → node_cmp other (ANetwork id low) ≡ Less

pub returns-then-not-is_of_id-clause-first : goal.returns-then-not-is_of_id-clause-first
returns-then-not-is_of_id-clause-first c =
    let nodes = c.args.at.now.nodes.now in
    let first = c.index_of-first.result in
    none_earlier nodes c.requires c.args.id first
    (subst (AreBefore nodes c.args.id first) c.new.ensures c.index_of-first.ensures.before)

pub returns-clause-first : goal.returns-clause-first
returns-clause-first c =
    let nodes = c.args.at.now.nodes.now in
    let first = c.index_of-first.result in
    none_earlier nodes c.requires c.args.id first
    (subst (AreBefore nodes c.args.id first) c.new.ensures c.index_of-first.ensures.before)

pub returns-then-not-is_of_id-clause-end : goal.returns-then-not-is_of_id-clause-end
returns-then-not-is_of_id-clause-end c =
    let nodes = c.args.at.now.nodes.now in
    let id = c.args.id in
    let first = c.index_of-first.result in
    let end = c.loop-end.end in
    let node = c.index-at-end.result in
    let here : slice_get nodes end ≡ Some node =
    slice_get_read nodes (length nodes) end node refl (omega arith) c.index-at-end.is in
    let away : c.is_of_id.result ≡ false = grind (arith, common_steps) in
    let P : ℕ → Type 0 = λ low. (k : ℕ) (other : Node) → slice_get nodes k ≡ Some other
    → first ≤ k → node_cmp other (ANetwork id low) ≡ Less → ⊥ in
    none_later nodes c.requires id first (subst P c.new.ensures c.index_of-first.ensures.beyond) end
    node c.loop-end.invariant here (λ is. false≢true (sym away
    ∙ c.is_of_id.ensures.1 (subst (IsOfId id) c.index-at-end.is is)))

pub returns-clause-end : goal.returns-clause-end
returns-clause-end c by place stands =
    slice_get_within c.args.at.now.nodes.now place (ANetwork c.args.id by) stands
