use Rattle.std.proofs.Common.{subst}
use Rattle.candidates.specs.Ways.{AreWays}
use Rattle.routes.specs.Contents.{Contents, contents_at}
use Rattle.routes.specs.declared.root.Root.{Root}
use Rattle.candidates.proofs.walks.walk_on.Goals as goal
use Rattle.candidates.specs.Reached.{way_in}

pub returns-clause-ways : goal.returns-clause-ways
returns-clause-ways c =
    let contents : Contents = contents_at c.args.moment c.args.db.now.present in
    let P : Root → Type 0 = λ root. AreWays contents root (way_in c.in_ok-reached.reached) in
    subst P c.in_ok-graph.ensures.root
    (c.in_ok-reached.ensures.ways contents c.in_ok-graph.ensures.graph)
