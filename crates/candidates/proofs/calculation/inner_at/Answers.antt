use Rattle.std.proofs.Common.{Some, sym, subst}
use Rattle.std.proofs.lemmas.Result.{IfOk-weaker}
use Rattle.lsdb.specs.Bodies.{AreBodies, InOrder}
use Rattle.routes.specs.Contents.{Contents, contents_at}
use Rattle.candidates.proofs.Each.{up_to_bodies}
use Rattle.candidates.proofs.calculation.inner_at.Goals as goal

pub inner_alone-requires-clause-alone : goal.inner_alone-requires-clause-alone
inner_alone-requires-clause-alone g c = c.reach_root_alone.ensures c.if-reach_root_alone.true

pub inner_of-requires-clause-order : goal.inner_of-requires-clause-order
inner_of-requires-clause-order g c =
    subst InOrder (sym c.deref.ensures.value) c.in_ok-bodies.ensures.bodies.ascend

pub returns-clause-inner : goal.returns-clause-inner
returns-clause-inner g c =
    let contents : Contents = contents_at c.args.moment c.args.db.now.present in
    IfOk-weaker c.inner_of.result _ _ (λ inner is. is contents c.requires.ways
    (up_to_bodies 4 contents c.deref.result.now
    (subst (AreBodies (Some 4) contents) (sym c.deref.ensures.value)
    c.in_ok-bodies.ensures.bodies)))
    c.inner_of.ensures.inner
