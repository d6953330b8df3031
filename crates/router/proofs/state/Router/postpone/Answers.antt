use Rattle.std.proofs.Common.{ap, ◌∙◌}
use Rattle.keyed_map.proofs.Helds.{on_ok}
use Rattle.adjacency.specs.Views.{keys_of}
use Rattle.adjacency.proofs.Sets.{keys_insert}
use Rattle.router.proofs.Edited.{waits}
use Rattle.router.proofs.state.Router.postpone.Goals as goal

pub returns : goal.returns
returns c =
    let k = c.args.key.now in
    waits _ c.args.self.now c.insert.result c.self.view_is (keys_of c.insert.new.self.present)
    (keys_of c.insert.new.self.committed) (ap keys_of c.insert.ensures.committed) k
    (on_ok c.insert.result (λ is. ap keys_of is ∙ keys_insert c.self.inside.waiting.present k tt)
    c.insert.ensures.ok)
