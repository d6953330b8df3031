use Rattle.std.proofs.Common.{Option, subst}
use Rattle.std.specs.Prelude.{IfSome}
use Rattle.area_routes.specs.Kept.{AreInnerBy}
use Rattle.candidates.specs.declared.inner.InnerRoutes.{InnerRoutes}
use Rattle.routes.specs.Contents.{contents_at}
use Rattle.area_routes.proofs.following.followed.Goals as goal

pub follow_some-requires-clause-inner : goal.follow_some-requires-clause-inner
follow_some-requires-clause-inner c =
    subst (λ (o : Option InnerRoutes). IfSome o
    (AreInnerBy (contents_at c.args.moment c.args.area.now.present.database) c.args.walk.now.root
    c.args.walk.now))
    c.in-Some.is c.requires.inner
