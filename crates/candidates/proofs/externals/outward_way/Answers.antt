use Rattle.std.proofs.Common.{◌≡◌, true, arith, rules, ap}
use Rattle.routes.specs.declared.graph.Way.{Way}
use Rattle.candidates.proofs.Boundaries.{below_longest}
use Rattle.candidates.proofs.Forwarded.{by_forwarding, by_originator, no_forwarding, no_originator}
use Rattle.candidates.proofs.externals.outward_way.Goals as goal

pub returns-in_err-boundary-clause-only : goal.returns-in_err-boundary-clause-only
returns-in_err-boundary-clause-only c =
    rw c.from_residual.ensures (no_originator _ _ _ _ _ c.in_err-boundary.ensures.only)

pub returns-then-is_unspecified-clause-only : goal.returns-then-is_unspecified-clause-only
returns-then-is_unspecified-clause-only c =
    by_originator _ _ _ _ _ c.in_ok-boundary.boundary c.in_ok-boundary.ensures.only (search rules)

pub returns-in_err-route-clause-only : goal.returns-in_err-route-clause-only
returns-in_err-route-clause-only c =
    rw c.from_residual-in_err-route.ensures
    (no_forwarding _ _ _ _ _ (λ e. let t : c.is_unspecified.result ≡ true =
    c.is_unspecified.ensures.1 e in cc) c.in_err-route.ensures)

pub returns-clause-only : goal.returns-clause-only
returns-clause-only c = by_forwarding _ _ _ _ _ c.in_ok-boundary.boundary c.inner_way.result
    c.in_ok-route.route c.in_ok-boundary.ensures.only
    (λ e. let t : c.is_unspecified.result ≡ true = c.is_unspecified.ensures.1 e in cc)
    c.in_ok-route.ensures c.inner_way.ensures

pub returns-clause-near : goal.returns-clause-near
returns-clause-near c =
    let low = below_longest c.args.inner.now.networks.now c.args.forwarding c.in_ok-route.route
    c.requires.networks.1 c.in_ok-route.ensures in
    omega (arith, low, ap (λ (w : Way). w.distance) c.inner_way.ensures)
