use mathlib.Core.Bool.{false≢true}
use Rattle.std.proofs.Common.{subst, sym}
use Rattle.std.specs.Prelude.{Some}
use Rattle.kept_routes.specs.Destinations.{Knows}
use Rattle.kept_routes.specs.Following.{HaveFollowed}
use Rattle.kept_routes.specs.declared.follow.Followed.{Followed}
use Rattle.kept_routes.specs.Sameness.{HaveSameContents}
use Rattle.lsdb.specs.Kept.{RouterDatabase}
use Rattle.routes.specs.Candidates.{AreCandidates}
use Rattle.routes.specs.Contents.{contents_at}
use Rattle.routes.specs.declared.root.Root.{Root}
use Rattle.candidates.specs.Reached.{way_in}
use Rattle.area_routes.proofs.Candidates.{stay_answered}
use Rattle.area_routes.proofs.following.follow_from.Goals as goal

pub follow_externals-requires-clause-same : goal.follow_externals-requires-clause-same
follow_externals-requires-clause-same c =
    subst (λ (d : RouterDatabase). HaveSameContents (Some 4) (contents_at c.args.before d.committed)
    (contents_at c.args.moment d.present)) (sym c.database-db.ensures) c.requires.same

pub follow_externals-requires-clause-inner : goal.follow_externals-requires-clause-inner
follow_externals-requires-clause-inner c =
    let contents = contents_at c.args.moment c.args.area.now.present.database in
    let known : Knows contents c.args.walk.now.root c.args.inner.now = record {
      ways = way_in c.args.walk.now.reached;
      are_ways = c.requires.walk.ways;
      are_inner = c.requires.inner.are_inner;
      searchable = c.requires.inner.searchable;
    } in
    subst (λ (d : RouterDatabase). Knows (contents_at c.args.moment d.present)
    c.root-root.result.now
    c.args.inner.now) (sym c.database-db.ensures)
    (subst (λ (r : Root). Knows contents r c.args.inner.now) (sym c.root-root.ensures) known)

pub follow_externals-requires-clause-routes : goal.follow_externals-requires-clause-routes
follow_externals-requires-clause-routes c =
    let contents = contents_at c.args.before c.args.area.now.committed.database in
    subst (λ (d : RouterDatabase). AreCandidates (contents_at c.args.before d.committed)
    c.root-root.result.now c.args.routes) (sym c.database-db.ensures)
    (subst (λ (r : Root). AreCandidates contents r c.args.routes) (sym c.root-root.ensures)
    c.requires.routes)

pub returns-in-SomeNew-clause-candidates : goal.returns-in-SomeNew-clause-candidates
returns-in-SomeNew-clause-candidates c =
    let items = c.follow_externals.new.routes in
    let here = c.database-db.result.now in
    let done = subst (λ (f : Followed). HaveFollowed (contents_at c.args.moment here.present)
    c.root-root.result.now c.args.routes items f) c.in-SomeNew.is c.in-Ok.ensures in
    subst (λ (d : RouterDatabase). AreCandidates (contents_at c.args.moment d.present)
    c.args.walk.now.root items) c.database-db.ensures
    (subst (λ (r : Root). AreCandidates (contents_at c.args.moment here.present) r items)
    c.root-root.ensures done.0)

pub returns-in-NoneNew-clause-candidates : goal.returns-in-NoneNew-clause-candidates
returns-in-NoneNew-clause-candidates c =
    let items = c.follow_externals.new.routes in
    let here = c.database-db.result.now in
    let done = subst (λ (f : Followed). HaveFollowed (contents_at c.args.moment here.present)
    c.root-root.result.now c.args.routes items f) c.in-NoneNew.is c.in-Ok.ensures in
    subst (λ (d : RouterDatabase). AreCandidates (contents_at c.args.moment d.present)
    c.args.walk.now.root items) c.database-db.ensures
    (subst (λ (r : Root). AreCandidates (contents_at c.args.moment here.present) r items)
    c.root-root.ensures done.0)

pub returns-in-NoneNew-clause-none_new : goal.returns-in-NoneNew-clause-none_new
returns-in-NoneNew-clause-none_new c on =
    let items = c.follow_externals.new.routes in
    let here = c.database-db.result.now in
    let old = contents_at c.args.before c.args.area.now.committed.database in
    let new = contents_at c.args.moment c.args.area.now.present.database in
    let done = subst (λ (f : Followed). HaveFollowed (contents_at c.args.moment here.present)
    c.root-root.result.now c.args.routes items f) c.in-NoneNew.is c.in-Ok.ensures in
    stay_answered old new c.args.walk.now.root c.args.routes items c.requires.routes
    (returns-in-NoneNew-clause-candidates c) done.1

pub returns-in-SomeNew-clause-none_new : goal.returns-in-SomeNew-clause-none_new
returns-in-SomeNew-clause-none_new c on = absurd (false≢true on)

pub returns-in-SomeNew-clause-another : goal.returns-in-SomeNew-clause-another
returns-in-SomeNew-clause-another c off =
    let items = c.follow_externals.new.routes in
    let here = c.database-db.result.now in
    let done = subst (λ (f : Followed). HaveFollowed (contents_at c.args.moment here.present)
    c.root-root.result.now c.args.routes items f) c.in-SomeNew.is c.in-Ok.ensures in
    done.1

pub returns-in-NoneNew-clause-another : goal.returns-in-NoneNew-clause-another
returns-in-NoneNew-clause-another c off = absurd (false≢true (sym off))

pub returns-in-NoneNew-clause-among : goal.returns-in-NoneNew-clause-among
returns-in-NoneNew-clause-among c on =
    let items = c.follow_externals.new.routes in
    let here = c.database-db.result.now in
    let done = subst (λ (f : Followed). HaveFollowed (contents_at c.args.moment here.present)
    c.root-root.result.now c.args.routes items f) c.in-NoneNew.is c.in-Ok.ensures in
    done.1

pub returns-in-SomeNew-clause-among : goal.returns-in-SomeNew-clause-among
returns-in-SomeNew-clause-among c on = absurd (false≢true on)
