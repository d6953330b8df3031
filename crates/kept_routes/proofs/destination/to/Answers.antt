use Rattle.std.proofs.Common.{sym, ap, ◌∙◌}
use Rattle.routes.specs.declared.offer.Offer.{Offer}
use Rattle.kept_routes.proofs.Networks.{told_other, told_same}
use Rattle.kept_routes.proofs.destination.to.Goals as goal

pub returns-then-eq : goal.returns-then-eq
returns-then-eq c x = (
  (λ p. p.0),
  (λ e. (
    e,
    ap (λ (o : Offer). o.prefix) e
        ∙ told_same c.args.offer.now.prefix c.args.prefix (sym c.if-eq.ensures),
  )),
)

pub returns : goal.returns
returns c x p =
    told_other c.args.offer.now.prefix c.args.prefix (sym c.if-eq.ensures)
    (sym (ap (λ (o : Offer). o.prefix) p.0) ∙ p.1)
