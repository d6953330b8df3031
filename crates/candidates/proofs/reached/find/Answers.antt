use Rattle.std.proofs.Common.{◌≡◌, Some, length, slice_get, arith, refl, sym, ◌∙◌}
use Rattle.std.proofs.lemmas.Option.{slice_get_read}
use Rattle.candidates.proofs.KeyNodes.{lt_false, lt_true}
use Rattle.candidates.specs.Nodes.{node_cmp}
use Rattle.candidates.proofs.NodePlaces.{at_its_place, nowhere, past}
use Rattle.candidates.proofs.reached.find.Goals as goal
use Rattle.candidates.proofs.reached.find.Goals.{then-at-nodes-via-else-at-nodes+then-is_before}
use Rattle.candidates.proofs.reached.find.Goals.{then-at-nodes-via-then-at-nodes}

pub returns-then-at-nodes-clause-missing : goal.returns-then-at-nodes-clause-missing
returns-then-at-nodes-clause-missing c =
    let nodes = c.args.nodes.now in
    let node = c.args.node.now in
    let at = c.index_of-at.result in
    elim c.then-at-nodes.branch [
      | then-at-nodes-via-then-at-nodes w ↦ past nodes node at (omega (arith, w.if-at-nodes.true))
          c.index_of-at.ensures.before
      | then-at-nodes-via-else-at-nodes+then-is_before w ↦
          let here = slice_get_read nodes (length nodes) at w.index-nodes-at.result refl
          (omega (arith, w.if-at-nodes.false, c.index_of-at.ensures.within)) w.index-nodes-at.is
          in
          nowhere nodes c.requires node w.index-nodes-at.result at here
          (lt_true (node_cmp node w.index-nodes-at.result)
          (sym w.is_before.ensures ∙ w.if-is_before.true)) c.index_of-at.ensures.before
    ]

pub returns-clause-found : goal.returns-clause-found
returns-clause-found c =
    let nodes = c.args.nodes.now in
    let node = c.args.node.now in
    let at = c.index_of-at.result in
    let other = c.index-nodes-at.result in
    let here : slice_get nodes at ≡ Some other =
    slice_get_read nodes (length nodes) at other refl
    (omega (arith, c.if-at-nodes.false, c.index_of-at.ensures.within)) c.index-nodes-at.is
    in
    at_its_place nodes node other at here (c.index_of-at.ensures.beyond at other here (omega arith))
    (lt_false (node_cmp node other) (sym c.is_before.ensures ∙ c.if-is_before.false))
