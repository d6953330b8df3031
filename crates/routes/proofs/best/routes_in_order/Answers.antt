use Rattle.std.proofs.Common.{◌≡◌, true, false, List, arith, take, sym, ◌∙◌, subst}
use Rattle.std.proofs.lemmas.List.{append-nil}
use Rattle.words.specs.declared.route.Route.{Route}
use Rattle.routes.proofs.Listed.{Among, Listed, all_taken, step_next, step_none, step_same}
use Rattle.routes.proofs.best.routes_in_order.Goals as goal
use Rattle.routes.proofs.best.routes_in_order.Goals.{in-None+in_ok-push-in-None}
use Rattle.routes.proofs.best.routes_in_order.Goals.{in-Some+then-is_same+in_ok-push-in-Some}
use Rattle.routes.proofs.best.routes_in_order.Goals.{in-Some+else-is_same+in_ok-push-in-Some-2+in_ok-push-in-Some-3}

pub loop-offer-preserved : goal.loop-offer-preserved
loop-offer-preserved c =
    let P : List Route → Type 0 = λ xs. Listed
    (Among (take c.loop-offer.offer-index c.args.offers.now)) xs in
    elim c.match-pop.branch [
      | in-None+in_ok-push-in-None w ↦
          rw (w.routes-is, w.in_ok-push-in-None.ensures.items, w.route_by.ensures)
          (step_none c.args.offers.now c.loop-offer.offer-index c.offer-item.result c.offer-item.is
          c.requires c.loop-offer-test.true c.pop.new.self.items
          (omega (arith, w.in-None.ensures.cases.1, c.pop.new.self.ok.0))
          (subst P (w.in-None.ensures.items ∙ append-nil c.pop.new.self.items)
          c.loop-offer.invariant))
      | in-Some+then-is_same+in_ok-push-in-Some w ↦
          rw (w.routes-is, w.in_ok-push-in-Some.ensures.items)
          (step_same c.args.offers.now c.loop-offer.offer-index c.offer-item.result c.offer-item.is
          c.requires c.loop-offer-test.true c.pop.new.self.items w.in-Some.last
          (subst P w.in-Some.ensures.items c.loop-offer.invariant)
          (w.is_same.ensures.0 w.if-is_same.true) w.with_offer.result
          w.with_offer.ensures)
      | in-Some+else-is_same+in_ok-push-in-Some-2+in_ok-push-in-Some-3 w ↦
          rw (
            w.routes-is,
            w.in_ok-push-in-Some-3.ensures.items,
            w.in_ok-push-in-Some-2.ensures.items,
            w.route_by-else-is_same.ensures,
          )
          (step_next c.args.offers.now c.loop-offer.offer-index c.offer-item.result c.offer-item.is
          c.requires c.loop-offer-test.true c.pop.new.self.items w.in-Some.last
          (subst P w.in-Some.ensures.items c.loop-offer.invariant)
          (λ e. let t = w.is_same.ensures.1 e in let f : true ≡ false =
          sym t ∙ w.if-is_same.false in cc))
    ]

pub returns : goal.returns
returns c = all_taken c.args.offers.now c.loop-offer.offer-index c.loop-offer.routes.items
    (omega (arith, c.loop-offer-test.false)) c.loop-offer.invariant
