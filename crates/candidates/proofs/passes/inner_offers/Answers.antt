use Rattle.std.proofs.Common.{[], arith}
use Rattle.candidates.specs.Sources.{IsInner}
use Rattle.candidates.proofs.Gathered.{all_of_them, of_one, one_more}
use Rattle.candidates.proofs.passes.inner_offers.Goals as goal

pub loop-one-preserved : goal.loop-one-preserved
loop-one-preserved g c =
    let Q = IsInner c.args.root.now (g.W.Ways.ways c.args.ways.now) c.args.routers.now in (
      one_more Q [] c.loop-one.offers.items c.push_inner.new.offers.items c.args.bodies.now
          c.loop-one.one-index c.one-item.result c.one-item.is c.loop-one-test.true
          c.loop-one.invariant.0
          (of_one Q c.loop-one.offers.items c.push_inner.new.offers.items c.one-item.result
          c.key.result.now c.body.result.now c.key.ensures c.body.ensures
          c.in_ok-push_inner.ensures.adds),
      c.in_ok-push_inner.ensures.cheap c.loop-one.invariant.1,
    )

pub returns-clause-adds : goal.returns-clause-adds
returns-clause-adds g c =
    let Q = IsInner c.args.root.now (g.W.Ways.ways c.args.ways.now) c.args.routers.now in
    all_of_them Q [] c.loop-one.offers.items c.args.bodies.now c.loop-one.one-index
    (omega (arith, c.loop-one-test.false)) c.loop-one.invariant.0
