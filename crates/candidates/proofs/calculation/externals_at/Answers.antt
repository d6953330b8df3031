use Rattle.std.proofs.Common.{None, sym, subst}
use Rattle.lsdb.specs.Bodies.{AreBodies}
use Rattle.routes.specs.Contents.{Contents, contents_at}
use Rattle.candidates.proofs.Each.{all_external}
use Rattle.candidates.proofs.calculation.externals_at.Goals as goal

pub returns : goal.returns
returns c =
    let contents : Contents = contents_at c.args.moment c.args.db.now.present in
    all_external contents c.deref.result.now c.in_ok-advertised.advertised.items
    (subst (AreBodies None contents) (sym c.deref.ensures.value) c.in_ok-bodies.ensures.bodies)
    c.in_ok-advertised.ensures
