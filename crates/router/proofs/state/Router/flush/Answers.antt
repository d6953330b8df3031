use Rattle.std.proofs.Common.{refl, sym, ap, ◌∙◌}
use Rattle.std.specs.Prelude.{Option}
use Rattle.std.specs.FinMap as finite
use Rattle.lsdb.specs.Copies.{DatabaseCopy}
use Rattle.received.specs.Links.{Area}
use Rattle.area.specs.Links.{with_no_sends}
use Rattle.event_rules.specs.EventState.{on_area}
use Rattle.event_rules.specs.Originations.{flush, flush_copy}
use Rattle.event_rules.specs.Routers.{Router}
use Rattle.router.proofs.Answered.{area_does}
use Rattle.router.proofs.Leaves.{appends_flush, flushed_is, keeps_flush, rests_aged}
use Rattle.router.proofs.Leaves.{rests_without}
use Rattle.router.proofs.Making.{does_same, done, makes_nothing, makes_same}
use Rattle.router.proofs.state.Router.flush.Goals as goal

pub returns-in_default : goal.returns-in_default
returns-in_default c =
    let m = c.args.moment in
    let k = c.args.key.now in
    let old = c.args.self.now.present in
    done _ (makes_same {f = λ p. p} {g = flush m k} (λ p is. rests_without m k p
    (finite.get old.area.database k)
    (ap (λ (r : Router). finite.get r.area.database k) (sym is))
    (c.in_default.ensures ∙ ap (λ d. finite.get d.present k) c.database.ensures
    ∙ ap (λ v. finite.get v.present.area.database k) c.self.view_is))
    (makes_nothing c.args.self.now))

pub returns-then-aged : goal.returns-then-aged
returns-then-aged c =
    let m = c.args.moment in
    let k = c.args.key.now in
    let old = c.args.self.now.present in
    done _ (makes_same {f = λ p. p} {g = flush m k} (λ p is. rests_aged m k p
    (finite.get old.area.database k)
    (ap (λ (r : Router). finite.get r.area.database k) (sym is)) c.in-Some.copy
    (c.in-Some.ensures ∙ ap (λ d. finite.get d.present k) c.database.ensures
    ∙ ap (λ v. finite.get v.present.area.database k) c.self.view_is)
    (sym c.if-aged.true ∙ c.is_aged_out-aged.ensures))
    (makes_nothing c.args.self.now))

pub returns : goal.returns
returns c =
    let m = c.args.moment in
    let k = c.args.key.now in
    let a : Area = c.self.inside.area.present in
    let copy = finite.get a.database k in
    let view = ap (λ q. q.present) c.self.view_is in
    does_same c.age_prematurely.result
    (λ p is. ap (λ (d : Option DatabaseCopy). on_area (flush_copy m k d) p)
    (ap (λ (r : Router). finite.get r.area.database k) (view ∙ sym is)))
    (area_does (flush_copy m k copy) (keeps_flush m k copy) (appends_flush m k copy) _
    c.args.self.now c.self.inside.area c.age_prematurely.new.self c.age_prematurely.result
    c.self.view_is refl
    c.age_prematurely.ensures
    (flushed_is m k c.in-Some.copy copy (with_no_sends a)
    (c.in-Some.ensures ∙ ap (λ d. finite.get d.present k) c.database.ensures)
    (sym c.if-aged.false ∙ c.is_aged_out-aged.ensures)))
