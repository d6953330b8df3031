use Rattle.std.proofs.Common.{map, ap, sym, ◌∙◌}
use Rattle.std.specs.FinMap as finite
use Rattle.keyed_map.specs.Slots.{kept_keys}
use Rattle.keyed_map.proofs.Orders.{live_entries}
use Rattle.keyed_map.proofs.map.KeyedMap.keys.Goals as goal

pub returns : goal.returns
returns g c =
    ap kept_keys c.iter.ensures.rest
    ∙ sym (ap (map (λ e. e.0)) (live_entries c.self.inside.slots.entries c.iter.ensures.ordered))
    ∙ ap (λ h. finite.keys h.present) c.self.view_is
