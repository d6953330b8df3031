use Rattle.std.proofs.Common.{take, ap, ◌∙◌}
use Rattle.std.proofs.lemmas.Result.{IfOk-weaker}
use Rattle.std.specs.FinMap as finite
use Rattle.keyed_map.specs.Slots.{keys_from}
use Rattle.lsdb.proofs.database.Lsdb.first_from.Goals as goal

pub returns : goal.returns
returns c =
    IfOk-weaker c.first_from.result _ _ (λ keys is.
    is ∙ ap (λ h. take c.args.count (keys_from c.args.key.now (finite.keys h.present)))
    c.self.view_is) c.first_from.ensures
