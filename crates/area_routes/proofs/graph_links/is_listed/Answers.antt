use Rattle.std.proofs.Common.{◌≡◌, ℕ, List, refl, sym, subst, ◌∙◌, arith}
use Rattle.std.specs.List.{Contains}
use Rattle.std.proofs.lemmas.Bool.{false≢true}
use Rattle.area_routes.proofs.Fronts.{front_all, front_more}
use Rattle.area_routes.proofs.graph_links.is_listed.Goals as goal

pub loop-other-preserved : goal.loop-other-preserved
loop-other-preserved c =
    front_more (λ (r : ℕ). r ≡ c.args.router → ⊥)
    c.as_slice-other-items.result.now c.loop-other.other-index c.other-item.result
    c.loop-other-test.true c.other-item.is c.loop-other.invariant
    (λ is. false≢true (sym c.if-is_same.false ∙ c.is_same.ensures.1 is))

pub returns : goal.returns
returns c = (
  (λ t. absurd cc),
  (λ listed.
      absurd (front_all (λ (r : ℕ). r ≡ c.args.router → ⊥)
      c.as_slice-other-items.result.now c.loop-other.other-index
      (omega (arith, c.loop-other-test.false)) c.loop-other.invariant c.args.router
      (subst (λ (rs : List ℕ). Contains rs c.args.router) (sym c.as_slice-other-items.ensures)
      listed) refl)),
)
