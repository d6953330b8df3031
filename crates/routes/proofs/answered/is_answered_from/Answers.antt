use Rattle.std.proofs.Common.{◌≡◌, ℕ, inl, inr, true, false, arith, ap, subst, sym, ◌∙◌}
use Rattle.std.proofs.lemmas.Bool.{cases_eq}
use Rattle.std.proofs.lemmas.Option.{get_or_from_slice_get, slice_get_within}
use Rattle.words.specs.declared.route.Route.{Route}
use Rattle.routes.specs.Parts.{StandsAt}
use Rattle.routes.proofs.answered.is_answered_from.Goals as goal

pub loop-at-init : goal.loop-at-init
loop-at-init c k low high stands = absurd (omega (arith, low, high))

pub loop-at-preserved : goal.loop-at-preserved
loop-at-preserved c k low high stands =
    let answers = c.args.answers.now in
    let at = c.loop-at.at in
    elim (cases_eq k at) [
      | inl same ↦
          let answer : Route × ℕ = c.index-answers-at.result in
          let here : StandsAt answers at c.args.route.now =
          subst (λ n. StandsAt answers n c.args.route.now) same stands in
          let wanted : Route × ℕ = (c.args.route.now, here.0) in
          let is : answer ≡ wanted = c.index-answers-at.is
          ∙ get_or_from_slice_get answers at wanted answer here.1 in
          let on : c.is_of.result ≡ true = c.is_of.ensures.1 (ap (λ (x : Route × ℕ). x.0) is) in
          absurd (let no : true ≡ false = sym on ∙ c.if-is_of.false in cc)
      | inr other ↦ c.loop-at.invariant k low (omega (arith, high, other)) stands
    ]

pub returns : goal.returns
returns c off k low stands =
    let within = slice_get_within c.args.answers.now k (c.args.route.now, stands.0) stands.1 in
    c.loop-at.invariant k low (omega (arith, within, c.loop-at-test.false)) stands
