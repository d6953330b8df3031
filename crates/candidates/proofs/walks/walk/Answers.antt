use Rattle.std.proofs.Common.{sym, subst}
use Rattle.candidates.specs.Ways.{AreWays}
use Rattle.routes.specs.Contents.{Contents, contents_at}
use Rattle.candidates.proofs.Alone.{alone_ways, without_way_out}
use Rattle.candidates.proofs.walks.walk.Goals as goal
use Rattle.candidates.specs.Reached.{NodeWays, way_in}

pub returns-in_ok-reached-clause-ways : goal.returns-in_ok-reached-clause-ways
returns-in_ok-reached-clause-ways c =
    let contents : Contents = contents_at c.args.moment c.args.db.now.present in
    let root = c.args.root.now in
    let nowhere = c.has_no_way_out.ensures c.if-has_no_way_out.true in
    let P : NodeWays → Type 0 = λ reached. AreWays contents root (way_in reached) in
    subst P (sym c.in_ok-reached.ensures)
    (alone_ways contents root (without_way_out contents root nowhere))
