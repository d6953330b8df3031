use Rattle.std.proofs.Common.{◌≡◌, ◌≤◌, List, [], take, length, sym, ◌∙◌, ap, subst}
use Rattle.std.proofs.Common.{Option, ◌++◌}
use Rattle.std.proofs.lemmas.List.{append-nil}
use Rattle.std.specs.FinMap as finite
use Rattle.std.specs.List.{cons_option, filter_map}
use Rattle.routes.specs.Contents.{contents_at}
use Rattle.routes.specs.declared.node.Node.{Node}
use Rattle.candidates.specs.Nodes.{AreNodes, node_of}
use Rattle.candidates.proofs.KeyNodes.{all_bodies, are_nodes, few, kept_more}
use Rattle.candidates.proofs.nodes.nodes_of.Goals as goal
use Rattle.candidates.proofs.nodes.nodes_of.Goals.{in-Some+in_ok-push, in_default}

pub loop-one-preserved : goal.loop-one-preserved
loop-one-preserved c =
    let es = c.deref-one-items.result.now in
    let more = kept_more es c.loop-one.one-index c.one-item.result c.loop-one-test.true
    c.one-item.is in
    let same : (c.key.result.now, c.body.result.now) ≡ c.one-item.result =
    λ i. (c.key.ensures i, c.body.ensures i) in
    let made : c.node_of.result ≡ node_of c.one-item.result = c.node_of.ensures ∙ ap node_of same in
    let with : Option Node → List Node =
    λ o. filter_map node_of (take c.loop-one.one-index es) ++ cons_option o [] in
    elim c.match-node_of.branch [
      | in-Some+in_ok-push w ↦ rw (w.nodes-is, w.in_ok-push.ensures.items, c.loop-one.invariant)
          (ap with (sym w.in-Some.is ∙ made) ∙ sym more)
      | in_default w ↦ rw (w.nodes-is, c.loop-one.invariant)
          (sym (append-nil (filter_map node_of (take c.loop-one.one-index es)))
          ∙ ap with (sym w.in_default.is ∙ made) ∙ sym more)
    ]

pub returns-clause-nodes : goal.returns-clause-nodes
returns-clause-nodes c =
    let contents = contents_at c.args.moment c.args.db.now.present in
    let P : List Node → Type 0 = λ nodes. AreNodes contents nodes in
    subst P (sym (all_bodies c.loop-one.nodes.items c.deref-one-items.result.now
    c.in_ok-bodies.bodies.items c.loop-one.one-index c.deref-one-items.ensures.value
    c.loop-one-test.false c.loop-one.invariant))
    (are_nodes contents c.in_ok-bodies.bodies.items c.in_ok-bodies.ensures.bodies)

pub returns-clause-few : goal.returns-clause-few
returns-clause-few c =
    let P : List Node → Type 0 = λ nodes. length nodes ≤ finite.len c.args.db.now.present in
    subst P (sym (all_bodies c.loop-one.nodes.items c.deref-one-items.result.now
    c.in_ok-bodies.bodies.items c.loop-one.one-index c.deref-one-items.ensures.value
    c.loop-one-test.false c.loop-one.invariant))
    (few c.in_ok-bodies.bodies.items (finite.len c.args.db.now.present)
    c.in_ok-bodies.ensures.few)
