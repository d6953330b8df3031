use Rattle.std.proofs.Common.{◌≡◌, inl, inr, Some, length, refl, arith, ap, sym, ◌∙◌}
use Rattle.std.specs.Prelude.{slice_get}
use Rattle.std.proofs.lemmas.Bool.{cases_eq}
use Rattle.std.proofs.lemmas.Option.{get_or_from_slice_get, slice_get_read}
use Rattle.words.specs.declared.route.Route.{Route}
use Rattle.routes.proofs.shared.same_first.Goals as goal

pub loop-at-init : goal.loop-at-init
loop-at-init c k r low is = absurd (omega (arith, low))

pub loop-at-preserved : goal.loop-at-preserved
loop-at-preserved c k r low is =
    let one = c.args.one.now in
    let other = c.args.other.now in
    let at = c.loop-at.at in
    elim (cases_eq k at) [
      | inl same ↦
          let x : Route = c.index-one-at.result in
          let y : Route = c.index-other-at.result in
          let there : slice_get one at ≡ Some r = ap (λ n. slice_get one n) (sym same) ∙ is in
          let its : x ≡ r = c.index-one-at.is ∙ get_or_from_slice_get one at r x there in
          let both : x ≡ y = c.is_same.ensures.0 c.if-not-is_same.false in
          let reads = slice_get_read other (length other) at y refl (omega arith)
          c.index-other-at.is in
          ap (λ n. slice_get other n) same ∙ reads ∙ ap (λ (z : Route). Some z) (sym both ∙ its)
      | inr apart ↦ c.loop-at.invariant k r (omega (arith, low, apart)) is
    ]

pub returns-clause-each : goal.returns-clause-each
returns-clause-each c k r low is =
    c.loop-at.invariant k r (omega (arith, low, c.loop-at-test.false)) is
