use Rattle.std.proofs.Common.{◌||◌, cond, ap, sym, ◌∙◌}
use Rattle.adjacency.specs.Contents.{Step}
use Rattle.adjacency.specs.Descriptions.{announced_more, exchange_done, send_description}
use Rattle.adjacency.specs.Drafts.{drafting}
use Rattle.adjacency.proofs.Doing.{sends_after}
use Rattle.adjacency.proofs.neighbor.Neighbor.slave_replies.Goals as goal

pub returns-then-more : goal.returns-then-more
returns-then-more c =
    let n = c.args.self.now.present in
    let moment = c.args.moment in
    let d = c.args.description.now in
    let replied = send_description moment (record n { sequence = d.sequence }) in
    let done : Step = record replied { neighbor = exchange_done moment replied.neighbor } in
    let counted = ap (λ h. send_description moment h.present) c.set_dd_sequence.ensures in
    let now = c.in_ok-send_description.ensures.ok ∙ ap (λ s. s.neighbor) counted in
    let is = c.either-more.ensures ∙ ap (λ b. b || d.more)
    (c.announced_more-announced.ensures ∙ ap (λ m. announced_more m.described) now) in
    sends_after _ (ap (λ h. h.committed) c.set_dd_sequence.ensures)
    (counted ∙ ap (λ b. cond b replied done) (sym c.if-more.true ∙ is))
    c.in_ok-send_description.ensures

pub returns : goal.returns
returns c =
    let n = c.args.self.now.present in
    let moment = c.args.moment in
    let d = c.args.description.now in
    let replied = send_description moment (record n { sequence = d.sequence }) in
    let done : Step = record replied { neighbor = exchange_done moment replied.neighbor } in
    let counted = ap (λ h. send_description moment h.present) c.set_dd_sequence.ensures in
    let now = c.in_ok-send_description.ensures.ok ∙ ap (λ s. s.neighbor) counted in
    let is = c.either-more.ensures ∙ ap (λ b. b || d.more)
    (c.announced_more-announced.ensures ∙ ap (λ m. announced_more m.described) now) in
    record {
      ok =
          ap (λ h. h.present) c.finish.ensures ∙ ap (exchange_done moment) now
          ∙ ap (λ b. (cond b replied done).neighbor) (sym c.if-more.false ∙ is);
      draft = λ delay. c.in_ok-send_description.ensures.draft delay
          ∙ ap (λ s. drafting delay s.sends c.args.draft.now) counted
          ∙ ap (λ b. drafting delay (cond b replied done).sends c.args.draft.now)
          (sym c.if-more.false ∙ is);
      committed = ap (λ h. h.committed) c.finish.ensures ∙ c.send_description.ensures.committed
          ∙ ap (λ h. h.committed) c.set_dd_sequence.ensures;
    }
