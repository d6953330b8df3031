use Rattle.std.proofs.Common.{◌≤◌, ap, subst, sym, ◌∙◌}
use Rattle.std.specs.Prelude.{◌↔◌, IfErr, IfSome, IsTrue, Result}
use Rattle.flood.specs.declared.book.error.BookError.{BookError}
use Rattle.event_rules.specs.Routers.{Router}
use Rattle.flood.specs.Offers.{IsStaleNow}
use Rattle.flood.specs.Replay.{BookView}
use Rattle.flood.proofs.Allowed.{allowed}
use Rattle.turns.specs.Turns.{IsRefusedBySome, taken_at}
use Rattle.turns.proofs.FromSome.{left_stale, refused_by_some, sent_by_some}
use Rattle.turns.proofs.taker.BookTaker.take.Goals as goal

pub returns-in-Ok-clause-stale : goal.returns-in-Ok-clause-stale
returns-in-Ok-clause-stale g c =
    let P : BookView → Type 0 =
    λ b. IfSome c.known-stale.result (λ is. IsTrue is ↔ IsStaleNow b.current) in
    subst P (sym c.is_stale.ensures.book)
    (left_stale c.apply_with_marks.new.self.current c.is_stale.result c.known-stale.result
    c.is_stale.ensures.stale c.known-stale.ensures)

pub returns-in-Ok-clause-ok : goal.returns-in-Ok-clause-ok
returns-in-Ok-clause-ok g c =
    let last = c.moment.ensures ∙ ap (λ (r : Router). r.moment) c.now.ensures.router in
    sent_by_some _ c.args.mine.now.amount c.audit.new.self.taken c.args.moment
    c.taken_at-at.result c.args.event
    c.audit.new.self.current c.apply_with_marks.new.self.current c.in-Ok.outs.items
    c.known-stale.result
    (subst (λ (b : BookView). c.args.mine.now.amount ≤ b.taken) (sym c.audit.ensures.book)
    c.audit.ensures.least)
    c.now.ensures.leads
    (c.taken_at-at.ensures ∙ ap (taken_at c.args.event c.args.moment) last)
    (allowed c.audit.new.self c.taken_at-at.result c.args.event c.in-Ok.outs
    c.in-Ok.ensures.refused) c.in-Ok.ensures.ok
    (left_stale c.apply_with_marks.new.self.current c.is_stale.result c.known-stale.result
    c.is_stale.ensures.stale c.known-stale.ensures)

pub returns-in-Err-clause-refused : goal.returns-in-Err-clause-refused
returns-in-Err-clause-refused g c =
    let last = c.moment.ensures ∙ ap (λ (r : Router). r.moment) c.now.ensures.router in
    let P : Result _ BookError → Type 0 =
    λ r. IfErr r (λ error. IsRefusedBySome g.L.Origin.origin c.args.mine.now.amount c.args.moment
    c.args.event error) in
    subst P c.in-Err.is
    (refused_by_some _ c.args.mine.now.amount c.args.moment c.taken_at-at.result c.args.event
    c.audit.new.self c.apply_with_marks.result
    (subst (λ (b : BookView). c.args.mine.now.amount ≤ b.taken) (sym c.audit.ensures.book)
    c.audit.ensures.least)
    c.now.ensures.leads
    (c.taken_at-at.ensures ∙ ap (taken_at c.args.event c.args.moment) last)
    c.apply_with_marks.ensures.refused)
