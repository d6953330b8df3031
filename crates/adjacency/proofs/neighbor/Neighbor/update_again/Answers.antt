use Rattle.std.proofs.Common.{map, cond, refl, sym, ap, ◌∙◌}
use Rattle.adjacency.specs.Contents.{Step, Updates, no_sends}
use Rattle.adjacency.specs.Retransmissions.{next_retransmissions}
use Rattle.adjacency.proofs.Doing.{updates_after, updates_nothing}
use Rattle.adjacency.proofs.neighbor.Neighbor.update_again.Goals as goal

pub returns-then-due : goal.returns-then-due
returns-then-due c =
    let n = c.args.self.now.present in
    let A : Step = record {
      neighbor = record n { retransmitted_at = c.args.moment };
      sends = map Updates (next_retransmissions c.args.moment c.args.database.now.present n);
    } in
    updates_after c.retransmit.result refl (ap (λ b. cond b A (no_sends n))
    (sym c.if-due.true ∙ c.retransmission_is_due-due.ensures)) c.retransmit.ensures

pub returns : goal.returns
returns c =
    let n = c.args.self.now.present in
    let A : Step = record {
      neighbor = record n { retransmitted_at = c.args.moment };
      sends = map Updates (next_retransmissions c.args.moment c.args.database.now.present n);
    } in
    updates_nothing _ refl (ap (λ b. cond b A (no_sends n))
    (sym c.if-due.false ∙ c.retransmission_is_due-due.ensures))
