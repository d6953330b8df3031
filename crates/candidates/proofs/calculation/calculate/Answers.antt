use Rattle.routes.specs.Contents.{Contents, contents_at}
use Rattle.candidates.proofs.calculation.calculate.Goals as goal

pub returns-clause-routes : goal.returns-clause-routes
returns-clause-routes g c =
    let contents : Contents = contents_at c.args.moment c.args.db.now.present in
    c.in_ok-routes.ensures contents (g.W.Ways.ways c.args.ways.now) c.requires.ways
    c.in_ok-inner.ensures.inner c.requires.externals
