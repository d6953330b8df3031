use Rattle.std.proofs.Common.{◌≡◌, ◌+◌, ◌-◌, ◌/◌, ℕ, Some, length, slice_get, arith, refl, sym, ◌∙◌}
use Rattle.std.proofs.lemmas.Option.{slice_get_read}
use Rattle.candidates.specs.Nodes.{node_cmp}
use Rattle.candidates.proofs.KeyNodes.{go_down, go_up, lt_false, lt_true}
use Rattle.candidates.proofs.nodes.index_of.Goals as goal

pub loop-low-preserved-then-is_before : goal.loop-low-preserved-then-is_before
loop-low-preserved-then-is_before c =
    let nodes = c.args.nodes.now in
    let middle : ℕ = c.loop-low.low + (c.loop-low.high - c.loop-low.low) / 2 in
    let here : slice_get nodes middle ≡ Some c.index-nodes-middle.result =
    slice_get_read nodes (length nodes) middle c.index-nodes-middle.result refl (omega arith)
    c.index-nodes-middle.is in
    record {
      bounds = omega arith;
      within = c.loop-low.invariant.within;
      before = go_up nodes c.requires c.args.node.now c.index-nodes-middle.result middle here
          (lt_true (node_cmp c.index-nodes-middle.result c.args.node.now)
          (sym c.is_before.ensures ∙ c.if-is_before.true));
      beyond = c.loop-low.invariant.beyond;
    }

pub loop-low-preserved : goal.loop-low-preserved
loop-low-preserved c =
    let nodes = c.args.nodes.now in
    let middle : ℕ = c.loop-low.low + (c.loop-low.high - c.loop-low.low) / 2 in
    let here : slice_get nodes middle ≡ Some c.index-nodes-middle.result =
    slice_get_read nodes (length nodes) middle c.index-nodes-middle.result refl (omega arith)
    c.index-nodes-middle.is in
    record {
      bounds = omega arith;
      within = omega arith;
      before = c.loop-low.invariant.before;
      beyond = go_down nodes c.requires c.args.node.now c.index-nodes-middle.result middle here
          (lt_false (node_cmp c.index-nodes-middle.result c.args.node.now)
          (sym c.is_before.ensures ∙ c.if-is_before.false));
    }
