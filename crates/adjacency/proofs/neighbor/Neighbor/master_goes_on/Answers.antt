use Rattle.std.proofs.Common.{◌+◌, ◌%◌, ◌^◌, ◌||◌, cond, ap, sym, ◌∙◌}
use Rattle.adjacency.specs.Contents.{no_sends}
use Rattle.adjacency.specs.Descriptions.{exchange_done, send_description}
use Rattle.adjacency.proofs.Doing.{sends_after, sends_nothing}
use Rattle.adjacency.proofs.neighbor.Neighbor.master_goes_on.Goals as goal

pub returns-then-more : goal.returns-then-more
returns-then-more c =
    let n = c.args.self.now.present in
    let moment = c.args.moment in
    let goes_on = send_description moment (record n { sequence = (n.sequence + 1) % 2 ^ 32 }) in
    let number = ap (λ q. (q + 1) % 2 ^ 32) c.sequence-sequence.ensures in
    let is = c.either-more.ensures ∙ ap (λ b. b || c.args.description.now.more)
    c.announced_more-announced.ensures in
    sends_after c.send_description.result (ap (λ h. h.committed) c.set_dd_sequence.ensures)
    (ap (λ h. send_description moment h.present) c.set_dd_sequence.ensures
    ∙ ap (λ q. send_description moment (record n { sequence = q })) number
    ∙ ap (λ b. cond b goes_on (no_sends (exchange_done moment n))) (sym c.if-more.true ∙ is))
    c.send_description.ensures

pub returns : goal.returns
returns c =
    let n = c.args.self.now.present in
    let moment = c.args.moment in
    let goes_on = send_description moment (record n { sequence = (n.sequence + 1) % 2 ^ 32 }) in
    let is = c.either-more.ensures ∙ ap (λ b. b || c.args.description.now.more)
    c.announced_more-announced.ensures in
    sends_nothing _ (ap (λ h. h.committed) c.finish.ensures)
    (ap (λ h. no_sends h.present) c.finish.ensures
    ∙ ap (λ b. cond b goes_on (no_sends (exchange_done moment n))) (sym c.if-more.false ∙ is))
