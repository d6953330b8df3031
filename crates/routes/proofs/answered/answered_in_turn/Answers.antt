use Rattle.std.proofs.Common.{◌≡◌, Some, inl, inr, arith, ap, subst, sym, ◌∙◌}
use Rattle.std.specs.Prelude.{slice_get}
use Rattle.std.proofs.lemmas.Bool.{cases_eq}
use Rattle.std.proofs.lemmas.Option.{get_or_from_slice_get}
use Rattle.words.specs.declared.route.Route.{Route}
use Rattle.routes.specs.Parts.{StandsAt}
use Rattle.routes.proofs.answered.answered_in_turn.Goals as goal

pub loop-at-preserved : goal.loop-at-preserved
loop-at-preserved c k r low is =
    let answers = c.args.answers.now in
    let routes = c.args.routes.now in
    let at = c.loop-at.at in
    elim (cases_eq k at) [
      | inl same ↦
          let route : Route = c.index-routes-at.result in
          let there : slice_get routes at ≡ Some r = ap (λ n. slice_get routes n) (sym same) ∙ is in
          let its : route ≡ r = c.index-routes-at.is
          ∙ get_or_from_slice_get routes at r route there in
          let stands : StandsAt answers at r =
          subst (StandsAt answers at) its (c.stands_at.ensures c.if-not-stands_at.false) in
          subst (λ n. StandsAt answers n r) (sym same) stands
      | inr other ↦ c.loop-at.invariant k r (omega (arith, low, other)) is
    ]

pub loop-at-init : goal.loop-at-init
loop-at-init c k r low is = absurd (omega (arith, low))

pub returns-clause-each : goal.returns-clause-each
returns-clause-each c k r low is =
    c.loop-at.invariant k r (omega (arith, low, c.loop-at-test.false)) is
