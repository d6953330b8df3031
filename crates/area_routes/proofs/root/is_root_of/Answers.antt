use Rattle.std.proofs.Common.{◌≡◌, ◌∙◌, ap, sym}
use Rattle.routes.specs.declared.root.Root.{Root}
use Rattle.area_routes.proofs.Roots.{begins_here, root_is, root_was}
use Rattle.area_routes.proofs.root.is_root_of.Goals as goal

pub returns-then-same : goal.returns-then-same
returns-then-same c =
    let router : c.args.root.now.router ≡ c.args.router =
    sym c.number.ensures ∙ c.if-same.true ∙ c.number-2.ensures in
    let links = c.links.ensures.present in (
      (λ same. begins_here c.args.root.now c.args.router router
          ∙ root_is c.args.router c.links.result.now c.args.area.now.present.links
          c.args.root.now.addresses links
          (sym c.as_slice.ensures ∙ c.are_addresses.ensures.0 same)),
      (λ is. c.are_addresses.ensures.1
          (c.as_slice.ensures ∙ root_was c.args.router c.links.result.now
          c.args.area.now.present.links c.args.root.now links is)),
    )

pub returns-else-same : goal.returns-else-same
returns-else-same c = (
  (λ same. absurd cc),
  (λ is. absurd (c.if-same.false (c.number.ensures ∙ ap (λ (r : Root). r.router) is
      ∙ sym c.number-2.ensures))),
)
