use Rattle.std.proofs.Common.{sym, ◌∙◌}
use Rattle.std.proofs.lemmas.List.Sums.{fold_more}
use Rattle.adjacency.specs.Descriptions.{with_request}
use Rattle.adjacency.proofs.neighbor.descriptions.list_all_more_recent.Goals as goal

pub loop-header-preserved : goal.loop-header-preserved
loop-header-preserved c = record {
  present = c.in_ok-list_if_more_recent.ensures.ok
      ∙ (λ i. with_request c.args.moment c.args.database.now.present
      (c.loop-header.invariant.present i) (c.header-item.is i))
      ∙ sym (fold_more (with_request c.args.moment c.args.database.now.present)
      c.args.requests.now.present c.args.headers.now c.loop-header.header-index
      c.header-item.result c.loop-header-test.true);
  committed = c.list_if_more_recent.ensures.committed ∙ c.loop-header.invariant.committed;
}
