use Rattle.std.proofs.Common.{◌≤◌, ap, subst, sym, ◌∙◌}
use Rattle.event_rules.specs.Routers.{Router}
use Rattle.flood.specs.Replay.{BookView, IsAfterEvents}
use Rattle.turns.specs.Turns.{announces}
use Rattle.turns.proofs.taker.BookTaker.wants.Goals as goal

pub returns-clause-now : goal.returns-clause-now
returns-clause-now g c =
    c.wants.ensures ∙ ap (λ (r : Router). announces r c.args.prefix) c.now.ensures.router
    ∙ ap (λ (b : BookView). announces b.current c.args.prefix) c.audit.ensures.book

pub returns-clause-some : goal.returns-clause-some
returns-clause-some g c =
    let P : Router → Type 0 = λ r. IsAfterEvents g.L.Origin.origin c.audit.new.self.taken r in (
      c.audit.new.self.taken,
      c.now.result.now,
      subst (λ (b : BookView). c.args.mine.now.amount ≤ b.taken) (sym c.audit.ensures.book)
          c.audit.ensures.least,
      subst P (sym c.now.ensures.router) c.now.ensures.leads,
      c.wants.ensures,
    )
