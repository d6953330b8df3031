use Rattle.std.proofs.Common.{arith}
use Rattle.candidates.proofs.Gathered.{adds_just, all_of_them, none_yet, one_more}
use Rattle.kept_routes.specs.Destinations.{IsTo}
use Rattle.kept_routes.proofs.destination.push_inner_to.Goals as goal

pub loop-offer-init : goal.loop-offer-init
loop-offer-init c = none_yet (IsTo c.args.prefix) c.args.offers.now.items c.args.inner.now

pub loop-offer-preserved : goal.loop-offer-preserved
loop-offer-preserved c =
    let Q = IsTo c.args.prefix in
    one_more Q c.args.offers.now.items c.loop-offer.offers.items c.push_offer.new.offers.items
    c.args.inner.now c.loop-offer.offer-index c.offer-item.result c.offer-item.is
    c.loop-offer-test.true c.loop-offer.invariant
    (adds_just c.loop-offer.offers.items c.push_offer.new.offers.items (Q c.offer-item.result)
    c.to.result c.to.ensures c.in_ok-push_offer.ensures)

pub returns : goal.returns
returns c =
    all_of_them (IsTo c.args.prefix) c.args.offers.now.items c.loop-offer.offers.items
    c.args.inner.now c.loop-offer.offer-index (omega (arith, c.loop-offer-test.false))
    c.loop-offer.invariant
