use Rattle.std.proofs.Common.{arith}
use Rattle.candidates.proofs.Gathered.{adds_just, all_of_them, none_yet, one_more}
use Rattle.routes.specs.Contents.{contents_at}
use Rattle.kept_routes.specs.Destinations.{OffersTo}
use Rattle.kept_routes.proofs.destination.push_externals_to.Goals as goal

pub loop-key-init : goal.loop-key-init
loop-key-init c =
    none_yet (OffersTo (contents_at c.args.moment c.args.db.now.present) c.args.root.now
    c.args.inner.now c.args.prefix) c.args.offers.now.items c.args.keys.now

pub loop-key-preserved : goal.loop-key-preserved
loop-key-preserved c =
    let Q = OffersTo (contents_at c.args.moment c.args.db.now.present) c.args.root.now
    c.args.inner.now
    c.args.prefix in
    one_more Q c.args.offers.now.items c.loop-key.offers.items c.push_offer.new.offers.items
    c.args.keys.now c.loop-key.key-index c.key-item.result c.key-item.is c.loop-key-test.true
    c.loop-key.invariant
    (adds_just c.loop-key.offers.items c.push_offer.new.offers.items (Q c.key-item.result)
    c.external_to.result c.external_to.ensures c.in_ok-push_offer.ensures)

pub returns : goal.returns
returns c =
    let Q = OffersTo (contents_at c.args.moment c.args.db.now.present) c.args.root.now
    c.args.inner.now
    c.args.prefix in
    all_of_them Q c.args.offers.now.items c.loop-key.offers.items c.args.keys.now
    c.loop-key.key-index (omega (arith, c.loop-key-test.false)) c.loop-key.invariant
