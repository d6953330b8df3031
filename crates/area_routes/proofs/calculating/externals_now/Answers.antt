use Rattle.std.proofs.Common.{subst}
use Rattle.lsdb.specs.Kept.{RouterDatabase}
use Rattle.candidates.specs.Externals.{AreExternals}
use Rattle.routes.specs.Contents.{contents_at}
use Rattle.area_routes.proofs.calculating.externals_now.Goals as goal

pub returns : goal.returns
returns c =
    subst (λ (d : RouterDatabase). AreExternals (contents_at c.args.moment d.present)
    c.in_ok-advertised.advertised.items) c.database-db.ensures c.in_ok-advertised.ensures
