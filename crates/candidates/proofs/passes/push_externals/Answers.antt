use Rattle.std.proofs.Common.{arith}
use Rattle.candidates.specs.Externals.{OfExternalAdvertisement}
use Rattle.candidates.proofs.Gathered.{adds_just, all_of_them, one_more}
use Rattle.candidates.proofs.passes.push_externals.Goals as goal

pub loop-advertised-preserved : goal.loop-advertised-preserved
loop-advertised-preserved c =
    let Q = OfExternalAdvertisement c.args.root.now c.args.inner.now.flagged.now
    c.args.inner.now.boundary_routes.now
    c.args.inner.now.networks.now in
    one_more Q c.args.offers.now.items c.loop-advertised.offers.items c.push_offer.new.offers.items
    c.args.externals.now c.loop-advertised.advertised-index c.advertised-item.result
    c.advertised-item.is
    c.loop-advertised-test.true c.loop-advertised.invariant
    (adds_just c.loop-advertised.offers.items c.push_offer.new.offers.items
    (Q c.advertised-item.result)
    c.offer_of_external.result c.offer_of_external.ensures c.in_ok-push_offer.ensures)

pub returns : goal.returns
returns c =
    let Q = OfExternalAdvertisement c.args.root.now c.args.inner.now.flagged.now
    c.args.inner.now.boundary_routes.now
    c.args.inner.now.networks.now in
    all_of_them Q c.args.offers.now.items c.loop-advertised.offers.items c.args.externals.now
    c.loop-advertised.advertised-index (omega (arith, c.loop-advertised-test.false))
    c.loop-advertised.invariant
