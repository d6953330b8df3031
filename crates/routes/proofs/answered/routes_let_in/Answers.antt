use Rattle.std.proofs.Common.{◌≡◌, ◌+◌, true, false, Global, Vec, sym, ◌∙◌, ap, subst, arith}
use Rattle.words.specs.declared.route.Route.{Route}
use Rattle.routes.proofs.LetIn.{AreLetInOf, left_out, let_in_more, whole}
use Rattle.routes.proofs.answered.routes_let_in.Goals.{then-found+in_ok-push, else-found}
use Rattle.routes.proofs.answered.routes_let_in.Goals as goal

pub loop-route-preserved : goal.loop-route-preserved
loop-route-preserved c =
    let answers = c.args.answers.now in
    let routes = c.args.routes.now in
    let n = c.loop-route.route-index in
    let route = c.route-item.result in
    elim c.if-found.branch [
      | then-found+in_ok-push w ↦
          let items = ap (λ (v : Vec Route Global). v.items) w.part-is
          ∙ w.in_ok-push.ensures.items in
          subst (AreLetInOf answers routes (n + 1)) (sym items)
          (let_in_more answers routes n route c.loop-route-test.true c.route-item.is
          c.loop-route.part.items (c.is_let_in-found.ensures.0 w.if-found.true)
          c.loop-route.invariant)
      | else-found w ↦
          subst (λ (v : Vec Route Global). AreLetInOf answers routes (n + 1) v.items)
          (sym w.part-is)
          (left_out answers routes n route c.loop-route-test.true c.route-item.is
          c.loop-route.part.items
          (λ among. let no : false ≡ true =
          sym w.if-found.false ∙ c.is_let_in-found.ensures.1 among in cc)
          c.loop-route.invariant)
    ]

pub returns : goal.returns
returns c = whole c.args.answers.now c.args.routes.now c.loop-route.route-index
    c.loop-route.part.items (omega arith) c.loop-route.invariant
