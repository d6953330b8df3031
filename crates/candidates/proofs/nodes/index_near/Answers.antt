use Rattle.std.proofs.Common.{Some, length, refl, ap, ◌∙◌}
use Rattle.std.proofs.lemmas.Option.{slice_get_read}
use Rattle.routes.specs.declared.node.Node.{Node}
use Rattle.candidates.specs.Graphs.{StandsAt}
use Rattle.candidates.proofs.KeyNodes.{go_down, in_places}
use Rattle.candidates.proofs.GraphWhole.{never_before}
use Rattle.candidates.proofs.nodes.index_near.Goals as goal

pub returns-then-is_same-clause-before : goal.returns-then-is_same-clause-before
returns-then-is_same-clause-before c =
    let nodes = c.args.nodes.now in
    let node = c.args.node.now in
    let at = c.args.place in
    let here : StandsAt nodes node at =
    slice_get_read nodes (length nodes) at c.index-nodes-place.result refl c.if-place-nodes.true
    c.index-nodes-place.is ∙ ap (λ (n : Node). Some n)
    (c.is_same.ensures.0 c.if-is_same.true) in
    λ k other there low. in_places nodes c.requires k at other node there here low

pub returns-then-is_same-clause-beyond : goal.returns-then-is_same-clause-beyond
returns-then-is_same-clause-beyond c =
    let nodes = c.args.nodes.now in
    let node = c.args.node.now in
    let at = c.args.place in
    let here : StandsAt nodes node at =
    slice_get_read nodes (length nodes) at c.index-nodes-place.result refl c.if-place-nodes.true
    c.index-nodes-place.is ∙ ap (λ (n : Node). Some n)
    (c.is_same.ensures.0 c.if-is_same.true) in
    go_down nodes c.requires node node at here (never_before node)
