use Rattle.std.proofs.Common.{sym, ◌∙◌}
use Rattle.std.specs.FinMap as finite
use Rattle.std.proofs.lemmas.List.Sums.{fold_more}
use Rattle.adjacency.proofs.neighbor.negotiation.remove_keys.Goals as goal

pub loop-key-preserved : goal.loop-key-preserved
loop-key-preserved c = record {
  present = c.in_ok-remove.ensures.ok
      ∙ (λ i. finite.remove (c.loop-key.invariant.present i) (c.key-item.is i))
      ∙ sym (fold_more finite.remove c.args.list.now.present c.args.keys.now c.loop-key.key-index
      c.key-item.result c.loop-key-test.true);
  committed = c.remove.ensures.committed ∙ c.loop-key.invariant.committed;
}
