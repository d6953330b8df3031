use Rattle.std.proofs.Common.{ap, ◌∙◌}
use Rattle.std.specs.Prelude.{slice_get}
use Rattle.std.specs.FinMap as finite
use Rattle.keyed_map.specs.Slots.{keys_from}
use Rattle.lsdb.proofs.database.Lsdb.next_from.Goals as goal

pub returns : goal.returns
returns c =
    c.next_from.ensures ∙ ap (λ h. slice_get (keys_from c.args.key.now (finite.keys h.present)) 0)
    c.self.view_is
