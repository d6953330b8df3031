use Rattle.std.proofs.Common.{sym, ◌∙◌}
use mathlib.Core.Bool.{false≢true}
use Rattle.kept_routes.specs.Externals.{IsNamed}
use Rattle.kept_routes.proofs.Tests.{not_so}
use Rattle.kept_routes.proofs.externals.is_unreached.Goals as goal

pub returns-then-is_boundary : goal.returns-then-is_boundary
returns-then-is_boundary c = (
  (λ t. absurd cc),
  (λ un. let way = c.is_boundary.ensures.0 c.if-is_boundary.true in absurd (un.inside way.0 way.1)),
)

pub returns : goal.returns
returns c =
    let unnamed = not_so c.is_named-named.result (IsNamed c.args.db.now.present c.args.router)
    c.is_named-named.ensures in (
      (λ t. record {
        inside = λ way flagged. false≢true
            (sym c.if-is_boundary.false ∙ c.is_boundary.ensures.1 (way, flagged));
        outside = unnamed.0 t;
      }),
      (λ un. unnamed.1 un.outside),
    )
