use Rattle.std.proofs.Common.{[], ◌∷◌, cond, refl, sym, ap, ◌∙◌}
use Rattle.adjacency.specs.Contents.{Requests, Step, no_sends}
use Rattle.adjacency.specs.Requests.{still_outstanding}
use Rattle.adjacency.proofs.Doing.{sends_after, sends_nothing}
use Rattle.adjacency.proofs.neighbor.Neighbor.request_again.Goals as goal

pub returns-then-due : goal.returns-then-due
returns-then-due c =
    let n = c.args.self.now.present in
    let A : Step = record {
      neighbor = record n { requested_at = c.args.moment };
      sends = Requests (still_outstanding n) ∷ [];
    } in
    sends_after c.request_outstanding.result refl (ap (λ b. cond b A (no_sends n))
    (sym c.if-due.true ∙ c.request_is_due-due.ensures)) c.request_outstanding.ensures

pub returns : goal.returns
returns c =
    let n = c.args.self.now.present in
    let A : Step = record {
      neighbor = record n { requested_at = c.args.moment };
      sends = Requests (still_outstanding n) ∷ [];
    } in
    sends_nothing _ refl (ap (λ b. cond b A (no_sends n))
    (sym c.if-due.false ∙ c.request_is_due-due.ensures))
