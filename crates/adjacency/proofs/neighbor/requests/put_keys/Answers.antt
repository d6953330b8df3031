use Rattle.std.proofs.Common.{refl, ap, ◌∙◌}
use Rattle.std.specs.FinSet as set
use Rattle.adjacency.specs.Views.{keys_of}
use Rattle.adjacency.proofs.Neighbors.{no_keys}
use Rattle.adjacency.proofs.Sets.{keys_insert, pushed_key}
use Rattle.adjacency.proofs.neighbor.requests.put_keys.Goals as goal

pub loop-key-init : goal.loop-key-init
loop-key-init c = record { present = ap keys_of c.requires ∙ no_keys (Unit {0}); committed = refl }

pub loop-key-preserved : goal.loop-key-preserved
loop-key-preserved c = record {
  present = ap keys_of c.in_ok-insert.ensures.ok
      ∙ keys_insert c.loop-key.keys_set.present c.key-item.result tt
      ∙ (λ i. set.insert (c.loop-key.invariant.present i) (c.key-item.is i))
      ∙ pushed_key c.args.keys.now c.loop-key.key-index c.key-item.result c.loop-key-test.true;
  committed = c.insert.ensures.committed ∙ c.loop-key.invariant.committed;
}
