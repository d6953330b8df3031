use Rattle.std.proofs.Common.{◌++◌, [], ◌∷◌, ◌∙◌}
use Rattle.std.specs.FinMap as finite
use Rattle.std.specs.List.{filter_map}
use Rattle.adjacency.specs.Exchanges.{entry_header}
use Rattle.adjacency.proofs.Lists.{one_more_header}
use Rattle.adjacency.proofs.neighbor.descriptions.headers_of.Goals as goal

pub loop-key-preserved : goal.loop-key-preserved
loop-key-preserved c =
    c.in_ok-push_header.ensures
    ∙ (λ i. c.loop-key.invariant i ++ filter_map
    (λ key. entry_header c.args.moment (finite.get c.args.list.now.present key))
    (c.key-item.is i ∷ []))
    ∙ one_more_header c.args.moment c.args.list.now.present c.args.keys.now c.loop-key.key-index
    c.key-item.result c.loop-key-test.true
