use Rattle.std.proofs.Common.{cond, refl, sym, ap, ◌∙◌}
use Rattle.adjacency.specs.Contents.{no_sends}
use Rattle.adjacency.specs.Descriptions.{repeat}
use Rattle.adjacency.proofs.Doing.{sends_after, sends_nothing}
use Rattle.adjacency.proofs.neighbor.Neighbor.describe_again.Goals as goal

pub returns-then-due : goal.returns-then-due
returns-then-due c =
    let n = c.args.self.now.present in
    sends_after c.repeat.result refl (ap (λ b. cond b (repeat c.args.moment n) (no_sends n))
    (sym c.if-due.true ∙ c.description_is_due-due.ensures)) c.repeat.ensures

pub returns : goal.returns
returns c =
    let n = c.args.self.now.present in
    sends_nothing _ refl (ap (λ b. cond b (repeat c.args.moment n) (no_sends n))
    (sym c.if-due.false ∙ c.description_is_due-due.ensures))
