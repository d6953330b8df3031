use Rattle.std.proofs.Common.{None, cond, ap, sym, ◌∙◌}
use Rattle.adjacency.specs.Descriptions.{is_over_for}
use Rattle.adjacency.specs.Views.{neighbor_of}
use Rattle.adjacency.proofs.Neighbors.{kept_is}
use Rattle.adjacency.proofs.Timers.{exchanged_now, forgets}
use Rattle.adjacency.proofs.neighbor.Neighbor.give_up_description.Goals as goal

pub returns-then-not-over : goal.returns-then-not-over
returns-then-not-over c =
    let n = c.args.self.now.present in
    let is = c.is_over_for-over.ensures ∙ ap (is_over_for c.args.moment c.args.dead)
    (exchanged_now c.self.inside.standing c.self.inside.described.present
    c.self.inside.summary.present c.self.inside.requests.present
    c.self.inside.outstanding.present c.self.inside.retransmissions.present
    ∙ ap (λ h. h.present.exchanged) c.self.view_is) in
    ap (λ b. record c.args.self.now { present = cond b (record n { described = None }) n })
    (sym c.if-not-over.true ∙ is)

pub returns : goal.returns
returns c =
    let s = c.self.inside.standing in
    let des = c.self.inside.described.present in
    let sum = c.self.inside.summary.present in
    let req = c.self.inside.requests.present in
    let out = c.self.inside.outstanding.present in
    let retr = c.self.inside.retransmissions.present in
    let n = c.args.self.now.present in
    let is = c.is_over_for-over.ensures ∙ ap (is_over_for c.args.moment c.args.dead)
    (exchanged_now s des sum req out retr ∙ ap (λ h. h.present.exchanged) c.self.view_is) in
    kept_is (ap (λ k. neighbor_of s k.present sum req out retr) c.set.ensures
    ∙ forgets s des sum req out retr
    ∙ ap (λ h. record h.present { described = None }) c.self.view_is
    ∙ ap (λ b. cond b (record n { described = None }) n) (sym c.if-not-over.false ∙ is))
    (ap (λ k. neighbor_of c.self.inside.before k.committed c.self.inside.summary.committed
    c.self.inside.requests.committed c.self.inside.outstanding.committed
    c.self.inside.retransmissions.committed) c.set.ensures
    ∙ ap (λ h. h.committed) c.self.view_is)
