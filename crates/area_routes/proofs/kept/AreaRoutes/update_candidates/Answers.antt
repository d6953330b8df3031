use mathlib.Core.Bool.{false≢true}
use Rattle.routes.specs.Contents.{contents_at}
use Rattle.area_routes.proofs.Candidates.{inner_carried}
use Rattle.area_routes.proofs.kept.AreaRoutes.update_candidates.Goals as goal

pub follow_externals-requires-clause-same : goal.follow_externals-requires-clause-same
follow_externals-requires-clause-same c = c.in-Ok.ensures.same c.if-same.true

pub follow_externals-requires-clause-inner : goal.follow_externals-requires-clause-inner
follow_externals-requires-clause-inner c =
    let old = contents_at c.args.before c.args.area.now.committed.database in
    let new = contents_at c.args.moment c.args.area.now.present.database in
    let kept = c.args.self.now in
    inner_carried c.inner_routes_are_kept.ensures old new kept.walk.root kept.walk
    (c.in-Ok.ensures.same c.if-same.true) kept.inner c.requires.inner

pub returns-clause-answered : goal.returns-clause-answered
returns-clause-answered c answers knew on stale = absurd (false≢true on)

pub returns-clause-none_new : goal.returns-clause-none_new
returns-clause-none_new c brings = absurd (let no = brings.are in cc)

pub returns-clause-matching : goal.returns-clause-matching
returns-clause-matching c answers knew = tt

pub returns-clause-lacking : goal.returns-clause-lacking
returns-clause-lacking c brings exact = absurd (let no = brings.are in cc)
