use Rattle.std.proofs.Common.{◌≡◌, inl, inr, true, false, arith, ap, sym, ◌∙◌}
use Rattle.std.proofs.lemmas.Bool.{cases_eq}
use Rattle.std.proofs.lemmas.Option.{get_or_from_slice_get, slice_get_within}
use Rattle.std.specs.Prelude.{slice_get, Some}
use Rattle.words.specs.declared.route.Route.{Route}
use Rattle.routes.proofs.shared.has.Goals as goal

pub loop-other-init : goal.loop-other-init
loop-other-init c k low high is = absurd (omega (arith, high))

pub loop-other-preserved : goal.loop-other-preserved
loop-other-preserved c k low high is =
    let routes = c.args.routes.now in
    let route = c.args.route.now in
    let at = c.loop-other.other-index in
    elim (cases_eq k at) [
      | inl same ↦
          let x : Route = c.other-item.result in
          let there : slice_get routes at ≡ Some route =
          ap (λ n. slice_get routes n) (sym same) ∙ is in
          let its : x ≡ route = c.other-item.is ∙ get_or_from_slice_get routes at route x there in
          absurd (let no : true ≡ false = sym (c.is_same.ensures.1 its) ∙ c.if-is_same.false in cc)
      | inr apart ↦ c.loop-other.invariant k low (omega (arith, high, apart)) is
    ]

pub returns : goal.returns
returns c off k is =
    let within = slice_get_within c.args.routes.now k c.args.route.now is in
    c.loop-other.invariant k (omega arith) (omega (arith, within, c.loop-other-test.false)) is
