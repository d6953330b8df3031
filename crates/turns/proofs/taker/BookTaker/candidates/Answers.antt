use Rattle.std.proofs.Common.{subst, sym}
use Rattle.event_rules.specs.Routers.{Router}
use Rattle.flood.specs.Replay.{IsAfterEvents}
use Rattle.turns.proofs.FromSome.{candidates_of_some}
use Rattle.turns.proofs.taker.BookTaker.candidates.Goals as goal

pub returns-clause-some : goal.returns-clause-some
returns-clause-some g c =
    let P : Router → Type 0 = λ r. IsAfterEvents g.L.Origin.origin c.args.self.now.taken r in
    candidates_of_some (λ routes. routes) g.L.Origin.origin c.args.self.now.taken c.now.result.now
    c.candidates.result
    (subst P (sym c.now.ensures.router) c.now.ensures.leads) c.candidates.ensures
