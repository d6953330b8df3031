use Rattle.words.specs.declared.key.Key.{Key}
use Rattle.lsa.specs.declared.body.LsaBody.{LsaBody}
use Rattle.candidates.specs.Sources.{OfNetwork, OfSummary}
use Rattle.candidates.proofs.Gathered.{adds_just, cheap_more}
use Rattle.candidates.proofs.Made.{of_inner}
use Rattle.candidates.proofs.area.push_inner.Goals as goal

pub returns : goal.returns
returns g c =
    let one : Key × LsaBody = (c.args.key.now, c.args.body.now) in
    record {
      adds = of_inner c.args.root.now (g.W.Ways.ways c.args.ways.now) c.args.routers.now one
          c.args.offers.now.items c.push_router.new.offers.items c.push_offer.new.offers.items
          c.push_offer-2.new.offers.items
          c.in_ok-push_router.ensures.adds
          (adds_just _ _ (OfNetwork (g.W.Ways.ways c.args.ways.now) one) c.network_offer.result
          c.network_offer.ensures.only c.in_ok-push_offer.ensures)
          (adds_just _ _ (OfSummary c.args.root.now c.args.routers.now one) c.summary_offer.result
          c.summary_offer.ensures.only c.in_ok-push_offer-2.ensures);
      cheap = λ cheap.
          cheap_more c.push_offer.new.offers.items c.push_offer-2.new.offers.items
          c.summary_offer.result c.in_ok-push_offer-2.ensures c.summary_offer.ensures.few
          (cheap_more c.push_router.new.offers.items c.push_offer.new.offers.items
          c.network_offer.result c.in_ok-push_offer.ensures
          (c.network_offer.ensures.few c.requires.near)
          (c.in_ok-push_router.ensures.cheap cheap));
    }
