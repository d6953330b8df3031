use Rattle.std.proofs.Common.{◌∷◌, [], ◌++◌, inl, inr, take, refl, sym, subst, ◌∙◌, ap, arith}
use Rattle.std.specs.List.{Contains}
use Rattle.std.proofs.lemmas.List.{take_all, take_more}
use Rattle.std.proofs.lemmas.List.Elements.{Contains-push_cases}
use Rattle.words.specs.Prefixes.{Network}
use Rattle.routes.proofs.Lists.{of_empty}
use Rattle.kept_routes.proofs.Networks.{told_other, told_same}
use Rattle.kept_routes.proofs.changes.is_among.Goals as goal

pub loop-other-init : goal.loop-other-init
loop-other-init c t = of_empty c.args.prefix t

pub loop-other-preserved : goal.loop-other-preserved
loop-other-preserved c t =
    let xs = c.args.prefixes.now in
    let i = c.loop-other.other-index in
    let x = c.other-item.result in
    let split = take_more xs i x c.loop-other-test.true
    ∙ ap (λ (y : Network). take i xs ++ y ∷ []) (sym c.other-item.is) in
    elim (Contains-push_cases (take i xs) x c.args.prefix
    (subst (λ ys. Contains ys c.args.prefix) split t)) [
      | inl before ↦ c.loop-other.invariant before
      | inr here ↦ told_other x c.args.prefix (sym c.if-eq.ensures) here
    ]

pub returns-then-eq : goal.returns-then-eq
returns-then-eq c =
    let x = c.other-item.result in (
      (λ t. subst (λ (y : Network). Contains c.args.prefixes.now y)
          (told_same x c.args.prefix (sym c.if-eq.ensures))
          (c.loop-other.other-index, c.loop-other-test.true, sym c.other-item.is)),
      (λ t. refl),
    )

pub returns : goal.returns
returns c = (
  (λ t. absurd cc),
  (λ among. absurd (c.loop-other.invariant
      (subst (λ ys. Contains ys c.args.prefix)
      (sym (take_all c.loop-other.other-index c.args.prefixes.now
      (omega (arith, c.loop-other-test.false)))) among))),
)
