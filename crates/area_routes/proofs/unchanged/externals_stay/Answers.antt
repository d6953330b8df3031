use Rattle.std.proofs.Common.{◌≡◌, subst, sym}
use Rattle.std.specs.List.{Contains}
use Rattle.lsdb.specs.Kept.{RouterDatabase}
use Rattle.routes.specs.Contents.{contents_at}
use Rattle.area_routes.proofs.unchanged.externals_stay.Goals as goal

pub returns-in-Ok : goal.returns-in-Ok
returns-in-Ok c stay key is =
    subst (λ (d : RouterDatabase). contents_at c.args.before d.committed key
    ≡ contents_at c.args.moment d.present key) c.database-db.ensures
    (c.in-Ok.ensures key (λ among. c.are_not_external.ensures.0 stay key
    (subst (λ ks. Contains ks key) (sym c.deref.ensures.value) among) is))
