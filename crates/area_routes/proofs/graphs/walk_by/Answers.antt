use Rattle.std.proofs.Common.{Option, subst}
use Rattle.std.specs.Prelude.{IfSome}
use Rattle.lsdb.specs.Kept.{RouterDatabase}
use Rattle.candidates.specs.Ways.{AreWays}
use Rattle.routes.specs.Contents.{contents_at}
use Rattle.routes.specs.declared.root.Root.{Root}
use Rattle.candidates.specs.Reached.{way_in}
use Rattle.candidates.specs.declared.graph.AreaGraph.{AreaGraph}
use Rattle.area_routes.specs.Kept.{IsGraphFrom}
use Rattle.area_routes.proofs.graphs.walk_by.Goals as goal

pub returns-in_ok-reached-in-Some-clause-ways : goal.returns-in_ok-reached-in-Some-clause-ways
returns-in_ok-reached-in-Some-clause-ways c =
    let contents = contents_at c.args.moment c.args.area.now.present.database in
    let kept = subst (λ (o : Option AreaGraph). IfSome o (IsGraphFrom contents c.args.root.now))
    c.in-Some.is c.requires.graph in
    subst (λ (r : Root). AreWays contents r (way_in c.in_ok-reached-in-Some.reached)) kept.starts
    (c.in_ok-reached-in-Some.ensures.ways contents kept.is)

pub returns-in_ok-reached-in-None-clause-ways : goal.returns-in_ok-reached-in-None-clause-ways
returns-in_ok-reached-in-None-clause-ways c =
    subst (λ (d : RouterDatabase). AreWays (contents_at c.args.moment d.present) c.args.root.now
    (way_in c.in_ok-reached-in-None.reached)) c.database-db.ensures
    c.in_ok-reached-in-None.ensures.ways
