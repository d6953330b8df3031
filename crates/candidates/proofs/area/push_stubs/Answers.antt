use Rattle.std.proofs.Common.{arith}
use Rattle.candidates.specs.Sources.{IsStub}
use Rattle.candidates.proofs.Gathered.{adds_just, all_of_them, cheap_more, none_yet, one_more}
use Rattle.candidates.proofs.area.push_stubs.Goals as goal

pub loop-link-init : goal.loop-link-init
loop-link-init c = (
  none_yet (IsStub c.args.way) c.args.offers.now.items c.args.links.now,
  λ cheap. cheap,
)

pub loop-link-preserved : goal.loop-link-preserved
loop-link-preserved c = (
  one_more (IsStub c.args.way) c.args.offers.now.items c.loop-link.offers.items
      c.push_offer.new.offers.items c.args.links.now c.loop-link.link-index c.link-item.result
      c.link-item.is c.loop-link-test.true
      c.loop-link.invariant.0
      (adds_just c.loop-link.offers.items c.push_offer.new.offers.items
      (IsStub c.args.way c.link-item.result) c.stub_offer.result c.stub_offer.ensures.only
      c.in_ok-push_offer.ensures),
  λ cheap. cheap_more c.loop-link.offers.items c.push_offer.new.offers.items c.stub_offer.result
      c.in_ok-push_offer.ensures c.stub_offer.ensures.few (c.loop-link.invariant.1 cheap),
)

pub returns : goal.returns
returns c = record {
  adds = all_of_them (IsStub c.args.way) c.args.offers.now.items c.loop-link.offers.items
      c.args.links.now c.loop-link.link-index (omega (arith, c.loop-link-test.false))
      c.loop-link.invariant.0;
  cheap = c.loop-link.invariant.1;
}
