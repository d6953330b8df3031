use Rattle.std.proofs.Common.{refl, ap, sym, ◌∙◌}
use Rattle.std.proofs.lemmas.Result.{IfOk-weaker}
use Rattle.lsdb.specs.Copies.{lsa_now}
use Rattle.adjacency.specs.Floods.{is_any}
use Rattle.adjacency.specs.Neighbors.{is_exchange_or_later}
use Rattle.adjacency.proofs.Floods.{floods, rests}
use Rattle.adjacency.proofs.Doing.{updates_after, updates_nothing}
use Rattle.adjacency.proofs.neighbor.Neighbor.flood.Goals as goal

pub returns-then-floods-clause-does : goal.returns-then-floods-clause-does
returns-then-floods-clause-does c =
    let n = c.args.self.now.present in
    let lsa = lsa_now c.args.moment c.args.copy.now in
    let is = ap (λ s. is_exchange_or_later s.state) (sym c.standing.ensures)
    ∙ sym c.is_exchange_or_later-floods.ensures in
    updates_after c.flood_in_exchange.result refl
    (floods c.args.moment c.args.came_in lsa n (is ∙ c.if-floods.true))
    c.flood_in_exchange.ensures.does

pub returns-then-floods-clause-sent : goal.returns-then-floods-clause-sent
returns-then-floods-clause-sent c =
    let n = c.args.self.now.present in
    let lsa = lsa_now c.args.moment c.args.copy.now in
    let is = ap (λ s. is_exchange_or_later s.state) (sym c.standing.ensures)
    ∙ sym c.is_exchange_or_later-floods.ensures in
    IfOk-weaker c.flood_in_exchange.result _ _
    (λ x made. made ∙ ap (λ s. is_any s.sends)
    (floods c.args.moment c.args.came_in lsa n
    (is ∙ c.if-floods.true))) c.flood_in_exchange.ensures.sent

pub returns-clause-does : goal.returns-clause-does
returns-clause-does c =
    let n = c.args.self.now.present in
    let lsa = lsa_now c.args.moment c.args.copy.now in
    let is = ap (λ s. is_exchange_or_later s.state) (sym c.standing.ensures)
    ∙ sym c.is_exchange_or_later-floods.ensures in
    updates_nothing _ refl (rests c.args.moment c.args.came_in lsa n (is ∙ c.if-floods.false))

pub returns-clause-sent : goal.returns-clause-sent
returns-clause-sent c =
    let n = c.args.self.now.present in
    let lsa = lsa_now c.args.moment c.args.copy.now in
    let is = ap (λ s. is_exchange_or_later s.state) (sym c.standing.ensures)
    ∙ sym c.is_exchange_or_later-floods.ensures in
    ap (λ s. is_any s.sends) (rests c.args.moment c.args.came_in lsa n
    (is ∙ c.if-floods.false))
