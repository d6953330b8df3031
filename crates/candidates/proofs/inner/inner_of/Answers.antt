use Rattle.std.proofs.Common.{List, [], arith, sym, subst}
use Rattle.words.specs.declared.route.Route.{Route}
use Rattle.candidates.specs.Borders.{FlaggedDistancesFit, HasLengths, Tells}
use Rattle.candidates.specs.Gathering.{Adds, OfEach}
use Rattle.candidates.specs.Sources.{IsInner}
use Rattle.candidates.specs.declared.flagged.Flagged.{Flagged}
use Rattle.routes.specs.Routes.{AreRoutesAmong}
use Rattle.candidates.proofs.All.{of_inside, of_networks, of_told}
use Rattle.candidates.proofs.Each.{fewer}
use Rattle.candidates.proofs.inner.inner_of.Goals as goal

pub boundary_routes-requires-clause-close : goal.boundary_routes-requires-clause-close
boundary_routes-requires-clause-close g c =
    subst FlaggedDistancesFit (sym c.deref.ensures.value) c.in_ok-flagged.ensures.close

pub inner_offers-requires-clause-close : goal.inner_offers-requires-clause-close
inner_offers-requires-clause-close g c =
    subst FlaggedDistancesFit (sym c.deref-2.ensures.value) c.in_ok-flagged.ensures.close

pub returns-clause-searchable : goal.returns-clause-searchable
returns-clause-searchable g c = record {
  flagged = (c.in_ok-flagged.ensures.ascend, c.in_ok-flagged.ensures.close);
  advertised = (c.in_ok-advertised.ensures.routes.ascending, c.in_ok-advertised.ensures.few);
  networks = (
    c.in_ok-networks.ensures.routes.ascending,
    c.in_ok-networks.ensures.few c.in_ok-offers.ensures.cheap,
  );
  lengths = subst (λ (rs : List Route). HasLengths rs c.lengths_of-lengths.result)
      c.deref-3.ensures.value c.lengths_of-lengths.ensures;
}

pub returns-clause-inner : goal.returns-clause-inner
returns-clause-inner g c contents are have =
    let root = c.args.root.now in
    let ways = g.W.Ways.ways c.args.ways.now in
    let bodies = c.args.bodies.now in
    let routers = c.in_ok-flagged.flagged.items in
    let flagged = c.in_ok-flagged.ensures.flagged contents
    (fewer 4 1 contents bodies (omega arith) have) in
    let advertised = subst (λ (rs : List Flagged). AreRoutesAmong (OfEach (Tells root rs) bodies)
    c.in_ok-advertised.advertised.items) c.deref.ensures.value c.in_ok-advertised.ensures.routes in
    let added = subst (λ (rs : List Flagged). Adds [] c.in_ok-offers.offers.items
    (OfEach (IsInner root ways rs) bodies)) c.deref-2.ensures.value c.in_ok-offers.ensures.adds
    in
    let inside = of_inside contents root ways are routers flagged bodies have
    c.in_ok-offers.offers.items added in
    record {
      flagged = flagged;
      advertised = of_told contents root ways are routers flagged bodies have
          c.in_ok-advertised.advertised.items advertised;
      networks = of_networks contents root ways are routers flagged bodies have
          c.in_ok-offers.offers.items c.in_ok-networks.networks.items added
          c.in_ok-networks.ensures.routes;
      offers = λ o. (
        (λ t. (inside o).0 ((c.routes_of_offers.ensures.same o).0 t)),
        (λ k. (c.routes_of_offers.ensures.same o).1 ((inside o).1 k)),
      );
    }
