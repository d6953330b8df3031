use Rattle.std.proofs.Common.{◌≡◌, length, sym, ap, subst, ◌∙◌, arith}
use Rattle.std.proofs.lemmas.List.{length-map}
use Rattle.area.specs.Links.{committed_link, present}
use Rattle.router.specs.Owned.{AreOwn}
use Rattle.router.proofs.state.Router.copy.Goals as goal

pub invariant_of-result : goal.invariant_of-result
invariant_of-result c =
    let id = c.self.inside.id in
    let links = c.links-links.result.now in
    let count : length c.in_ok-area.area.committed.links
    ≡ length c.self.inside.area.committed.links =
    ap (λ a. length a.committed.links) c.in_ok-area.ensures
    ∙ ap length (sym c.links-links.ensures.present) ∙ length-map links present
    ∙ sym (length-map links committed_link) ∙ ap length c.links-links.ensures.committed in (
      ap (λ a. a.router) c.in_ok-area.ensures ∙ c.self.invariant.0,
      omega (arith, count, c.self.invariant.1),
      subst (AreOwn id) (sym c.in_ok-announced.ensures.present) c.self.invariant.2,
      subst (AreOwn id) (sym (c.in_ok-announced.ensures.committed
          ∙ c.in_ok-announced.ensures.present)) c.self.invariant.2,
    )
