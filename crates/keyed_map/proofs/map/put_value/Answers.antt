use Rattle.std.proofs.Common.{ap, ◌∙◌}
use Rattle.keyed_map.specs.declared.slot.KeySlot.TheVariants.{Holds}
use Rattle.keyed_map.specs.Slots.{live, slots_of}
use Rattle.keyed_map.proofs.Slots.{live_put, slots_insert}
use Rattle.keyed_map.proofs.map.put_value.Goals as goal

pub returns : goal.returns
returns g c =
    let entries = c.args.slots.now.entries in
    ap live (slots_insert entries c.insert.new.self.entries c.args.key (Holds c.args.x)
    c.in_ok-_before.ensures.updates.0) ∙ live_put (slots_of entries) c.args.key (Holds c.args.x)
