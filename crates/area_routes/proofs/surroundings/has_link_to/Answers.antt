use Rattle.std.proofs.Common.{◌≡◌, List, sym, subst, ◌∙◌, arith}
use Rattle.std.specs.List.{Contains}
use Rattle.std.proofs.lemmas.Bool.{false≢true}
use Rattle.lsa.specs.declared.body.RouterLink.{RouterLink}
use Rattle.area_routes.proofs.Fronts.{front_all, front_more}
use Rattle.area_routes.proofs.surroundings.has_link_to.Goals as goal

pub loop-link-preserved : goal.loop-link-preserved
loop-link-preserved c =
    front_more (λ (l : RouterLink). (l.kind ≡ c.args.kind) × (l.link_id ≡ c.args.id) → ⊥)
    c.as_slice-link-items.result.now c.loop-link.link-index c.link-item.result
    c.loop-link-test.true c.link-item.is c.loop-link.invariant
    (λ is. false≢true (sym c.if-is_to.false ∙ c.is_to.ensures.1 is))

pub returns : goal.returns
returns c = (
  (λ t. absurd cc),
  (λ has.
      absurd (front_all (λ (l : RouterLink). (l.kind ≡ c.args.kind) × (l.link_id ≡ c.args.id) → ⊥)
      c.as_slice-link-items.result.now c.loop-link.link-index
      (omega (arith, c.loop-link-test.false)) c.loop-link.invariant has.0
      (subst (λ (ls : List RouterLink). Contains ls has.0) (sym c.as_slice-link-items.ensures)
      has.1)
      (has.2, has.3))),
)
