use Rattle.std.proofs.Common.{subst, sym}
use Rattle.candidates.specs.Inner.{AreInner}
use Rattle.kept_routes.specs.Kept.{IsWalkOf}
use Rattle.lsdb.specs.Kept.{RouterDatabase}
use Rattle.candidates.specs.Externals.{AreExternals}
use Rattle.routes.specs.Candidates.{AreCandidates}
use Rattle.routes.specs.Contents.{contents_at}
use Rattle.candidates.specs.Reached.{way_in}
use Rattle.area_routes.proofs.calculating.calculate_by.Goals as goal

pub calculate-requires-clause-walk : goal.calculate-requires-clause-walk
calculate-requires-clause-walk c =
    subst (λ (d : RouterDatabase). IsWalkOf (contents_at c.args.moment d.present) c.args.walk.now)
    (sym c.database-db.ensures) c.requires.walk

pub calculate-requires-clause-externals : goal.calculate-requires-clause-externals
calculate-requires-clause-externals c =
    subst (λ (d : RouterDatabase). AreExternals (contents_at c.args.moment d.present)
    c.args.externals.now) (sym c.database-db.ensures) c.requires.externals

pub returns-clause-routes : goal.returns-clause-routes
returns-clause-routes c =
    subst (λ (d : RouterDatabase). AreCandidates (contents_at c.args.moment d.present)
    c.args.walk.now.root c.in_ok-made.made.routes.items)
    c.database-db.ensures c.in_ok-made.ensures.routes

pub returns-clause-inner : goal.returns-clause-inner
returns-clause-inner c = record {
  are_inner = subst (λ (d : RouterDatabase). AreInner (contents_at c.args.moment d.present)
      c.args.walk.now.root (way_in c.args.walk.now.reached) c.in_ok-made.made.inner)
      c.database-db.ensures c.in_ok-made.ensures.inner;
  searchable = c.in_ok-made.ensures.searchable;
}
