use Rattle.std.proofs.Common.{subst, sym}
use Rattle.event_rules.specs.Routers.{Router}
use Rattle.flood.specs.Replay.{IsAfterEvents}
use Rattle.turns.proofs.FromSome.{offered_by_some}
use Rattle.turns.proofs.taker.BookTaker.offered.Goals as goal

pub returns-clause-some : goal.returns-clause-some
returns-clause-some g c =
    let P : Router → Type 0 = λ r. IsAfterEvents g.L.Origin.origin c.args.self.now.taken r in
    offered_by_some (λ o. o.candidates.items) (λ o. o.rows.items) g.L.Origin.origin
    c.args.self.now.taken c.now.result.now c.offered.result
    (subst P (sym c.now.ensures.router) c.now.ensures.leads) c.offered.ensures
