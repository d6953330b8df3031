use Rattle.std.proofs.Common.{refl, ap, sym, ◌∙◌}
use Rattle.adjacency.specs.Adjacencies.{enter_exstart}
use Rattle.adjacency.specs.Contents.{sent_on, step_on}
use Rattle.adjacency.specs.Views.{present_of}
use Rattle.adjacency.proofs.Doing.{nothing_sent}
use Rattle.area.proofs.neighbor_slot.NeighborSlot.enter_exstart.Goals as goal

pub returns-in_default : goal.returns-in_default
returns-in_default c =
    let F = enter_exstart c.args.moment in
    let none = ap present_of (sym c.in_default.is) ∙ ap (λ h. h.present) c.self.view_is in
    nothing_sent _ refl (sym none ∙ ap (step_on F) none) (ap (sent_on F) none)
