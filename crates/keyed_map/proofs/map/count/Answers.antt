use Rattle.std.proofs.Common.{true, ap, ◌∙◌, arith}
use Rattle.keyed_map.specs.Slots.{count_after_change}
use Rattle.keyed_map.proofs.Orders.{len_live}
use Rattle.keyed_map.proofs.map.count.Goals as goal

-- one more key has a slot too
pub overflow_add-result : goal.overflow_add-result
overflow_add-result g c =
    let slots = len_live c.args.slots.now.entries c.len-slots.ensures.ordered in
    let more = c.requires ∙ ap (λ b. count_after_change b true c.args.len) c.if-held.false in
    omega (arith, more, c.len-slots.ensures.len, c.len-slots.ensures.small, slots)
