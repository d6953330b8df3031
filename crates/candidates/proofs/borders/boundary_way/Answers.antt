use Rattle.std.proofs.Common.{arith, ap, ◌∙◌}
use Rattle.routes.specs.declared.graph.Way.{Way}
use Rattle.candidates.specs.Borders.{host}
use Rattle.candidates.proofs.Boundaries.{below_found, inside, no_boundary, outside}
use Rattle.candidates.proofs.borders.boundary_way.Goals as goal

pub returns-in-Some-clause-only : goal.returns-in-Some-clause-only
returns-in-Some-clause-only c = inside _ _ _ c.in-Some.way c.in-Some.ensures.only

pub returns-in_err-route-in-None-clause-only : goal.returns-in_err-route-in-None-clause-only
returns-in_err-route-in-None-clause-only c =
    rw c.from_residual.ensures (no_boundary _ _ _ c.host.result
    (c.host.ensures ∙ ap (λ n. host n) c.number.ensures) c.in-None.ensures.only
    c.in_err-route-in-None.ensures)

pub returns-in_ok-route-in-None-clause-only : goal.returns-in_ok-route-in-None-clause-only
returns-in_ok-route-in-None-clause-only c =
    outside _ _ _ c.host.result (c.host.ensures ∙ ap (λ n. host n) c.number.ensures)
    c.in-None.ensures.only c.in_ok-route-in-None.route c.inner_way.result
    c.in_ok-route-in-None.ensures c.inner_way.ensures

pub returns-in_ok-route-in-None-clause-near : goal.returns-in_ok-route-in-None-clause-near
returns-in_ok-route-in-None-clause-near c =
    let low = below_found c.args.advertised.now c.host.result c.in_ok-route-in-None.route
    c.requires.few
    c.in_ok-route-in-None.ensures in
    omega (arith, low, ap (λ (w : Way). w.distance) c.inner_way.ensures)
