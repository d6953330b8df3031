use Rattle.std.proofs.Common.{ap, sym, ◌∙◌}
use Rattle.std.specs.FinMap as finite
use Rattle.keyed_map.specs.Slots.{kept}
use Rattle.keyed_map.proofs.Orders.{live_entries}
use Rattle.keyed_map.proofs.map.KeyedMap.entries.Goals as goal

pub returns : goal.returns
returns g c =
    ap kept c.iter.ensures.rest
    ∙ sym (live_entries c.self.inside.slots.entries c.iter.ensures.ordered)
    ∙ ap (λ h. finite.entries h.present) c.self.view_is
