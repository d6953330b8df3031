use Rattle.std.proofs.Common.{ap, ◌∙◌}
use Rattle.std.specs.List.{fold}
use Rattle.std.specs.FinMap as finite
use Rattle.keyed_map.proofs.Helds.{on_ok}
use Rattle.router.proofs.Edited.{forgets}
use Rattle.router.proofs.Forgotten.{forgotten}
use Rattle.router.proofs.state.Router.forget_originations.Goals as goal

pub returns : goal.returns
returns c =
    let m = c.self.inside.originated.present in
    forgets _ c.args.self.now c.remove_each.result c.self.view_is c.args.moment
    c.remove_each.new.moments.present c.remove_each.new.moments.committed
    c.remove_each.ensures.committed
    (on_ok c.remove_each.result
    (λ is. is ∙ ap (fold finite.remove m) (c.deref.ensures.value ∙ c.in_ok-keys.ensures)
    ∙ forgotten c.args.moment m)
    c.remove_each.ensures.ok)
