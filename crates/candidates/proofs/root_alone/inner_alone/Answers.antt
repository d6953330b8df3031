use Rattle.std.proofs.Common.{◌≡◌, List, [], ap, sym, subst, ◌∙◌}
use Rattle.std.specs.List.{Contains}
use Rattle.std.specs.Prelude.{◌↔◌, Option, option_copied}
use Rattle.words.specs.declared.key.Key.{Key}
use Rattle.words.specs.declared.route.Route.{Route}
use Rattle.lsa.specs.declared.body.LsaBody.{LsaBody}
use Rattle.routes.proofs.Lists.{of_empty}
use Rattle.routes.specs.Links.{router_key}
use Rattle.routes.specs.Routes.{AreRoutesAmong}
use Rattle.routes.specs.Contents.{Contents, contents_at}
use Rattle.routes.specs.Summaries.{OffersInside}
use Rattle.routes.specs.declared.offer.Offer.{Offer}
use Rattle.candidates.specs.Alone.{OfOne}
use Rattle.candidates.specs.Borders.{FlaggedDistancesFit, AreFlagged, AscendByRouter, HasLengths}
use Rattle.candidates.specs.Borders.{TellsFlags}
use Rattle.candidates.specs.Gathering.{Adds, OfferCostsFit, IsOnly}
use Rattle.candidates.specs.Sources.{IsInner}
use Rattle.candidates.specs.declared.flagged.Flagged.{Flagged}
use Rattle.candidates.proofs.RootAlone.{none_told, one_ascends, one_close, one_flagged, own_inside}
use Rattle.candidates.proofs.RootAlone.{own_networks}
use Rattle.candidates.proofs.root_alone.inner_alone.Goals as goal

pub push_by-requires-clause-ascend : goal.push_by-requires-clause-ascend
push_by-requires-clause-ascend g c =
    subst AscendByRouter (sym (c.deref.ensures.value ∙ c.in_ok-flagged.ensures))
    (one_ascends c.flagged_by.result)

pub push_by-requires-clause-close : goal.push_by-requires-clause-close
push_by-requires-clause-close g c =
    subst FlaggedDistancesFit (sym (c.deref.ensures.value ∙ c.in_ok-flagged.ensures))
    (one_close c.args.root.now (g.W.Ways.ways c.args.ways.now) c.requires.alone
    c.router_key-key.result _ c.flagged_by.result c.requires.near c.flagged_by.ensures)

none_cheap : (offers : List Offer) → offers ≡ [] → OfferCostsFit offers
none_cheap offers none o among = absurd (of_empty o (subst (λ xs. Contains xs o) none among))

pub returns-clause-searchable : goal.returns-clause-searchable
returns-clause-searchable g c = record {
  flagged = (
    subst AscendByRouter (sym c.in_ok-flagged.ensures) (one_ascends c.flagged_by.result),
    subst FlaggedDistancesFit (sym c.in_ok-flagged.ensures)
        (one_close c.args.root.now (g.W.Ways.ways c.args.ways.now) c.requires.alone
        c.router_key-key.result _ c.flagged_by.result c.requires.near c.flagged_by.ensures),
  );
  advertised = (
    c.in_ok-advertised.ensures.routes.ascending,
    c.in_ok-advertised.ensures.few (none_cheap _ c.new-none.ensures.items),
  );
  networks = (
    c.in_ok-networks.ensures.routes.ascending,
    c.in_ok-networks.ensures.few
        (c.in_ok-push_by.ensures.cheap (none_cheap _ c.new-offers.ensures.items)),
  );
  lengths = subst (λ (rs : List Route). HasLengths rs c.lengths_of-lengths.result)
      c.deref-2.ensures.value c.lengths_of-lengths.ensures;
}

pub returns-clause-inner : goal.returns-clause-inner
returns-clause-inner g c =
    let root = c.args.root.now in
    let ways = g.W.Ways.ways c.args.ways.now in
    let contents : Contents = contents_at c.args.moment c.args.db.now.present in
    let own_key : Key = router_key root.router in
    let advertised : Option LsaBody = option_copied c.body_at-body.result in
    let own : advertised ≡ contents own_key = c.body_at-body.ensures ∙ ap contents
    c.router_key-key.ensures in
    let just : IsOnly (OfOne (TellsFlags ways) own_key advertised) c.flagged_by.result =
    subst (λ (k : Key). IsOnly (OfOne (TellsFlags ways) k advertised) c.flagged_by.result)
    c.router_key-key.ensures c.flagged_by.ensures in
    let routers = c.in_ok-flagged.flagged.items in
    let flagged : AreFlagged contents ways routers =
    subst (AreFlagged contents ways) (sym c.in_ok-flagged.ensures)
    (one_flagged root ways c.requires.alone contents advertised own c.flagged_by.result just) in
    let offers = c.push_by.new.offers.items in
    let by_list : Adds c.new-offers.result.items offers (OfOne (IsInner root ways routers)
    c.router_key-key.result advertised) =
    subst (λ (rs : List Flagged). Adds c.new-offers.result.items offers
    (OfOne (IsInner root ways rs) c.router_key-key.result advertised)) c.deref.ensures.value
    c.in_ok-push_by.ensures.adds in
    let by_key : Adds c.new-offers.result.items offers (OfOne (IsInner root ways routers)
    own_key advertised) =
    subst (λ (k : Key). Adds c.new-offers.result.items offers
    (OfOne (IsInner root ways routers) k advertised)) c.router_key-key.ensures by_list in
    let adds : Adds [] offers (OfOne (IsInner root ways routers) own_key advertised) =
    subst (λ (xs : List Offer). Adds xs offers
    (OfOne (IsInner root ways routers) own_key advertised))
    c.new-offers.ensures.items by_key in
    let inside : (o : Offer) → Contains offers o ↔ OffersInside contents root o =
    own_inside root ways c.requires.alone contents advertised own c.requires.ways routers flagged
    offers
    adds in
    record {
      flagged = flagged;
      advertised = none_told root ways c.requires.alone contents advertised own c.requires.ways
          routers
          flagged
          c.in_ok-advertised.advertised.items
          (subst (λ (xs : List Offer). AreRoutesAmong (λ o. Contains xs o)
          c.in_ok-advertised.advertised.items)
          c.new-none.ensures.items c.in_ok-advertised.ensures.routes);
      networks = own_networks root ways c.requires.alone contents advertised own c.requires.ways
          routers
          flagged offers c.in_ok-networks.networks.items adds c.in_ok-networks.ensures.routes;
      offers = λ o. (
        (λ t. (inside o).0 ((c.routes_of_offers-2.ensures.same o).0 t)),
        (λ k. (c.routes_of_offers-2.ensures.same o).1 ((inside o).1 k)),
      );
    }
