use Rattle.std.proofs.Common.{[], ◌∷◌, ◌++◌, inl, inr, take, refl, sym, subst, ◌∙◌, ap, arith}
use Rattle.std.specs.List.{Contains}
use Rattle.std.proofs.lemmas.List.{take_all, take_more}
use Rattle.std.proofs.lemmas.List.Elements.{Contains-push_cases}
use Rattle.words.specs.declared.key.Key.{Key}
use Rattle.area_routes.specs.Kept.{AreNotExternal}
use Rattle.area_routes.proofs.unchanged.are_not_external.Goals as goal

pub loop-key-init : goal.loop-key-init
loop-key-init c key among = absurd (omega (arith, among.1))

pub loop-key-preserved : goal.loop-key-preserved
loop-key-preserved c key among is =
    let xs = c.args.keys.now in
    let i = c.loop-key.key-index in
    let x = c.key-item.result in
    let split = take_more xs i x c.loop-key-test.true
    ∙ ap (λ (y : Key). take i xs ++ y ∷ []) (sym c.key-item.is) in
    elim (Contains-push_cases (take i xs) x key (subst (λ ys. Contains ys key) split among)) [
      | inl before ↦ c.loop-key.invariant key before is
      | inr here ↦ omega (arith, c.if-key-eq5.false, ap (λ (k : Key). k.ls_type) here, is)
    ]

pub returns-then-key-eq5 : goal.returns-then-key-eq5
returns-then-key-eq5 c = (
  (λ t. absurd cc),
  (λ all. absurd (all c.key-item.result
      (c.loop-key.key-index, c.loop-key-test.true, sym c.key-item.is)
      (omega (arith, c.if-key-eq5.true)))),
)

pub returns : goal.returns
returns c = (
  (λ t. subst AreNotExternal (take_all c.loop-key.key-index c.args.keys.now
      (omega (arith, c.loop-key-test.false))) c.loop-key.invariant),
  (λ all. refl),
)
