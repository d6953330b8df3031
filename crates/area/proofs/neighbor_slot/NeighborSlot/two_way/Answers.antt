use Rattle.std.proofs.Common.{refl, sym, ◌∙◌}
use Rattle.adjacency.proofs.Doing.{nothing_sent, sent_after}
use Rattle.area.proofs.Processing.{begins_on, begins_sent, rests_on, rests_sent}
use Rattle.area.proofs.neighbor_slot.NeighborSlot.two_way.Goals as goal

pub returns-then-init : goal.returns-then-init
returns-then-init c =
    let is = sym c.is_init-init.ensures ∙ c.if-init.true in
    sent_after c.enter_exstart.result refl (begins_on c.args.moment c.args.self.now.present is)
    (begins_sent c.args.moment c.args.self.now.present is) c.enter_exstart.ensures

pub returns : goal.returns
returns c =
    let is = sym c.is_init-init.ensures ∙ c.if-init.false in
    nothing_sent _ refl (rests_on c.args.moment c.args.self.now.present is)
    (rests_sent c.args.moment c.args.self.now.present is)
