-- What is advertised about AS boundary routers, forwarding addresses and external destinations,
-- given the ways by the database's links.
use Rattle.std.proofs.Common.{◌≡◌, ℕ, ◌+◌, ◌≤◌, inl, inr, IsTrue, List, Some, arith, refl, sym, ◌∙◌}
use Rattle.std.proofs.Common.{ap, subst}
use Rattle.std.proofs.lemmas.Bool.{cases_lt}
use Rattle.words.specs.Interfaces.{has_interface}
use Rattle.words.specs.Prefixes.{Network}
use Rattle.words.specs.declared.key.Key.{Key}
use Rattle.words.specs.declared.route.Route.{Route}
use Rattle.words.specs.declared.route.RouteKind.TheVariants.{Inter}
use Rattle.lsa.specs.declared.body.LsaBody.{LsaBody}
use Rattle.lsa.specs.declared.body.LsaBody.TheVariants as body
use Rattle.lsa.specs.declared.body.ExternalLsa.{ExternalLsa}
use Rattle.routes.specs.Candidates.{IsExternalWay, OffersExternal}
use Rattle.routes.specs.Paths.{Way as WalkWay}
use Rattle.routes.specs.Routes.{AreRoutesAmong, IsBestAmong, IsNoWorse, IsRouteAmong, rank}
use Rattle.routes.specs.Routes.IsNoLater.{ByTag}
use Rattle.routes.specs.Routes.IsNoWorse.{ByCost, ByDistance, ByKind}
use Rattle.routes.specs.Contents.{Contents}
use Rattle.routes.specs.Summaries.{IsBoundaryWay, IsAdvertised, IsWayBetween, OffersInside, inter}
use Rattle.routes.specs.Summaries.{summary_key}
use Rattle.routes.specs.Summaries.IsBoundaryWay.{Inside as InsideWay, Outside as OutsideWay}
use Rattle.routes.specs.declared.graph.Way.{Way}
use Rattle.routes.specs.declared.offer.Offer.{Offer}
use Rattle.routes.specs.declared.root.Root.{Root}
use Rattle.routes.proofs.Determined.{AreAlike, alike, as_good}
use Rattle.candidates.specs.Borders.{AreFlagged, IsBoundary, IsFound, IsOutward, Tells, host}
use Rattle.candidates.specs.Borders.{inner_way}
use Rattle.candidates.specs.Borders.IsBoundary.{Inside, Outside}
use Rattle.candidates.specs.Bodies.{OfContents}
use Rattle.candidates.specs.Sources.{OfExternal}
use Rattle.candidates.specs.Ways.{AreWays, Ways}
use Rattle.candidates.specs.declared.flagged.Flagged.{Flagged}
use Rattle.candidates.proofs.Carried.{as_found, as_way, boundary_back, boundary_forth, counted_back}
use Rattle.candidates.proofs.Carried.{counted_forth}

same_router : (a b : ℕ) → host a ≡ host b → a ≡ b
same_router a b e = omega (arith, ap (λ (n : Network). n.address) e)

cheaper : (a b : Offer) → rank a.kind ≡ rank b.kind → IsNoWorse a b → a.cost ≤ b.cost
cheaper a b e (ByKind less) = absurd (omega (arith, e, less))
cheaper a b e (ByCost same less) = omega (arith, less)
cheaper a b e (ByDistance same cost less) = omega (arith, cost)

module _ (contents : Contents) (root : Root) (ways : Ways) (are : AreWays contents root ways)
    (routers : List Flagged) (flagged : AreFlagged contents ways routers) where
  -- ---- what is advertised about AS boundary routers

  abbrev Told : Offer → Type 0
  Told o = OfContents (Tells root routers) contents o

  record TellsOf (router : ℕ) (o : Offer) : Type 0 where
    border : WalkWay
    advertised : IsAdvertised contents root router o.cost border
    hops : o.hops ≡ border.hops
    kind : o.kind ≡ Inter
    distance : o.distance ≡ 0
    originator : o.originator ≡ 0
    tag : o.tag ≡ 0

  told_of : (router : ℕ) (o : Offer) → Told o → o.prefix ≡ host router → TellsOf router o
  told_of router o ((key, says), is, k) e =
      let by = key.advertising_router in
      let id : key.link_state_id ≡ router =
      same_router key.link_state_id router (sym (ap (λ (x : Offer). x.prefix) k.is) ∙ e) in
      let here : key ≡ summary_key 4 router by = λ i. record {
        ls_type = k.is_type i;
        link_state_id = id i;
        advertising_router = by;
      } in
      record {
        border = as_way k.border;
        advertised = record {
          originator = by;
          lsa = k.lsa;
          its = ap contents (sym here) ∙ is ∙ ap (λ (b : LsaBody). Some b) k.its;
          counts = counted_forth contents root ways are routers flagged by k.lsa k.border k.counts;
          is = ap (λ (x : Offer). x.cost) k.is;
        };
        hops = ap (λ (x : Offer). x.hops) k.is;
        kind = ap (λ (x : Offer). x.kind) k.is;
        distance = ap (λ (x : Offer). x.distance) k.is;
        originator = ap (λ (x : Offer). x.originator) k.is;
        tag = ap (λ (x : Offer). x.tag) k.is;
      }

  offer_of : (router distance : ℕ) (border : WalkWay)
      → IsAdvertised contents root router distance border
      → Told (inter (host router) distance border.hops)
  offer_of router distance border t =
      let c = counted_back contents root ways are routers flagged t.originator t.lsa border t.counts
      in
      let key = summary_key 4 router t.originator in
      let far : c.0.distance ≡ border.distance = ap (λ (w : WalkWay). w.distance) c.2 in
      let cost : distance ≡ c.0.distance + t.lsa.metric = omega (arith, t.is, far) in
      let leaves : border.hops ≡ c.0.hops = sym (ap (λ (w : WalkWay). w.hops) c.2) in (
        (key, body.RouterSummary t.lsa),
        t.its,
        record {
          is_type = refl;
          lsa = t.lsa;
          its = refl;
          border = c.0;
          counts = c.1;
          is = λ i. inter (host router) (cost i) (leaves i);
        },
      )

  same_rank : (router : ℕ) (o : Offer) → TellsOf router o → rank o.kind ≡ 1
  same_rank router o t = ap (λ k. rank k) t.kind

  module _ (advertised : List Route) (all : AreRoutesAmong Told advertised) where
    between_forth : (router : ℕ) (route : Route) → IsFound advertised (host router) route
        → IsWayBetween contents root router (as_way (inner_way route))
    between_forth router route f =
        let k : IsRouteAmong Told route = (all.each route).0 f.among in
        let first : TellsOf router k.first =
        told_of router k.first k.is_best.offered (k.is_best.is_for ∙ f.is_for) in
        record {
          border = first.border;
          advertised = subst (λ d. IsAdvertised contents root router d first.border) (sym k.cost)
              first.advertised;
          least = λ distance other t.
              let o : Offer = inter (host router) distance other.hops in
              let no_worse : IsNoWorse k.first o =
              k.is_best.best o (offer_of router distance other t) (sym f.is_for) in
              omega (arith, cheaper k.first o (same_rank router k.first first) no_worse, k.cost);
          hops = λ i. (
            (λ t.
                let h = (k.hops i).0 t in
                let o : TellsOf router h.0 = told_of router h.0 h.1.offered (h.1.is_for ∙ f.is_for)
                in
                let same = alike h.0 k.first (h.1.best k.first k.is_best.offered k.is_best.is_for)
                (k.is_best.best h.0 h.1.offered h.1.is_for) in
                let cost : h.0.cost ≡ route.cost = same.cost ∙ sym k.cost in (
                  o.border,
                  subst (λ d. IsAdvertised contents root router d o.border) cost o.advertised,
                  subst (λ n. IsTrue (has_interface n i)) o.hops h.2,
                )),
            (λ h.
                let o : Offer = inter (host router) route.cost h.0.hops in
                let offered : Told o = offer_of router route.cost h.0 h.1 in
                let like : AreAlike k.first o = record {
                  kind = same_rank router k.first first;
                  cost = sym k.cost;
                  distance = first.distance;
                } in
                let best : IsBestAmong Told route.prefix o = record {
                  offered = offered;
                  is_for = sym f.is_for;
                  best = λ x p e. as_good k.first o x like (k.is_best.best x p e);
                } in
                (k.hops i).1 (o, best, h.2)),
          );
        }

    abbrev route_to : ℕ → WalkWay → Route
    route_to router way = record {
      prefix = host router;
      kind = Inter;
      cost = way.distance;
      distance = 0;
      hops = way.hops;
      tag = 0;
    }

    between_back : (router : ℕ) (way : WalkWay) → IsWayBetween contents root router way
        → IsRouteAmong Told (route_to router way)
    between_back router way b =
        let best_of : (border : WalkWay) → IsAdvertised contents root router way.distance border
        → IsBestAmong Told (host router) (inter (host router) way.distance border.hops) =
        λ border t.
        record {
          offered = offer_of router way.distance border t;
          is_for = refl;
          best = λ x p e.
              let o : TellsOf router x = told_of router x p e in
              let least : way.distance ≤ x.cost = b.least x.cost o.border o.advertised in
              let ranks : 1 ≡ rank x.kind = sym (same_rank router x o) in
              elim (cases_lt way.distance x.cost) [
                | inl less ↦ ByCost ranks (omega (arith, less))
                | inr more ↦ let same : way.distance ≡ x.cost = omega (arith, least, more) in
                    ByDistance ranks same (omega arith)
              ];
        } in
        let first : Offer = inter (host router) way.distance b.border.hops in
        let its_best : IsBestAmong Told (host router) first = best_of b.border b.advertised in
        record {
          first = first;
          is_best = its_best;
          earliest = λ other is. let o : TellsOf router other =
              told_of router other is.offered is.is_for in ByTag (sym o.originator) (omega arith);
          kind = refl;
          cost = refl;
          distance = refl;
          tag = refl;
          hops = λ i. (
            (λ t. let h = (b.hops i).0 t in
                (inter (host router) way.distance h.0.hops, best_of h.0 h.1, h.2)),
            (λ h.
                let o : TellsOf router h.0 = told_of router h.0 h.1.offered h.1.is_for in
                let same = alike h.0 first (h.1.best first its_best.offered refl)
                (its_best.best h.0 h.1.offered h.1.is_for) in
                (b.hops i).1 (
                  o.border,
                  subst (λ d. IsAdvertised contents root router d o.border) same.cost
                      o.advertised,
                  subst (λ n. IsTrue (has_interface n i)) o.hops h.2,
                )),
          );
        }

    boundary_way_forth : (router : ℕ) (w : Way) → IsBoundary routers advertised router w
        → IsBoundaryWay contents root router (as_way w)
    boundary_way_forth router w (Inside k) =
        InsideWay (boundary_forth contents root ways are routers flagged router w k)
    boundary_way_forth router w (Outside none route f e) =
        OutsideWay (λ other r. let b = boundary_back contents root ways are routers flagged router
        other
        r in none b.0 b.1)
        (subst (λ (x : Way). IsWayBetween contents root router (as_way x)) (sym e)
        (between_forth router route f))

    boundary_way_back : (router : ℕ) (way : WalkWay) → IsBoundaryWay contents root router way
        → IsBoundary routers advertised router (as_found way)
    boundary_way_back router way (InsideWay k) =
        let b = boundary_back contents root ways are routers flagged router way k in
        subst (IsBoundary routers advertised router) (ap as_found b.2) (Inside b.1)
    boundary_way_back router way (OutsideWay none b) =
        Outside (λ other k. none (as_way other)
        (boundary_forth contents root ways are routers flagged router other k))
        (route_to router way)
        (record {
          among = (all.each (route_to router way)).1 (between_back router way b);
          is_for = refl;
        }) refl

    -- ---- external destinations

    module _ (inner : List Route) (inside : AreRoutesAmong (OffersInside contents root) inner) where
      outward_forth : (originator : ℕ) (lsa : ExternalLsa) (w : Way)
          → IsOutward routers advertised inner originator lsa w
          → IsExternalWay contents root originator lsa (as_way w)
      outward_forth originator lsa w k = record {
        boundary = as_way k.boundary;
        reaches = boundary_way_forth originator k.boundary k.reaches;
        direct = λ e. ap as_way (k.direct e);
        forwarded = λ other.
            let f = k.forwarded other in
            record {
              by = f.0;
              is_route = (inside.each f.0).0 f.1.among;
              under = f.1.under;
              longest = λ x is under. f.1.longest x ((inside.each x).1 is) under;
              is = ap as_way f.2;
            };
      }

      outward_back : (originator : ℕ) (lsa : ExternalLsa) (way : WalkWay)
          → IsExternalWay contents root originator lsa way
          → IsOutward routers advertised inner originator lsa (as_found way)
      outward_back originator lsa way k = record {
        boundary = as_found k.boundary;
        reaches = boundary_way_back originator k.boundary k.reaches;
        direct = λ e. ap as_found (k.direct e);
        forwarded = λ other.
            let f = k.forwarded other in (
              f.by,
              record {
                among = (inside.each f.by).1 f.is_route;
                under = f.under;
                longest = λ x among under. f.longest x ((inside.each x).0 among) under;
              },
              ap as_found f.is,
            );
      }

      pub external_forth : (o : Offer) → OfContents (OfExternal root routers advertised inner)
          contents o
          → OffersExternal contents root o
      external_forth o ((key, says), is, k) =
          let id = key.link_state_id in
          let by = key.advertising_router in
          let here : key ≡ record {
            ls_type = 5;
            link_state_id = id;
            advertising_router = by;
          } = λ i. record { ls_type = k.is_type i; link_state_id = id; advertising_router = by } in
          record {
            id = id;
            originator = by;
            lsa = k.lsa;
            its = ap contents (sym here) ∙ is ∙ ap (λ (b : LsaBody). Some b) k.its;
            reachable = k.reachable;
            of_another = k.of_another;
            prefix = k.prefix;
            is_prefix = k.is_prefix;
            way = as_way k.way;
            is_way = outward_forth by k.lsa k.way k.is_way;
            is = k.is;
          }

      pub external_back : (o : Offer) → OffersExternal contents root o
          → OfContents (OfExternal root routers advertised inner) contents o
      external_back o k =
          let key : Key = record {
            ls_type = 5;
            link_state_id = k.id;
            advertising_router = k.originator;
          } in (
            (key, body.External k.lsa),
            k.its,
            record {
              is_type = refl;
              lsa = k.lsa;
              its = refl;
              reachable = k.reachable;
              of_another = k.of_another;
              prefix = k.prefix;
              is_prefix = k.is_prefix;
              way = as_found k.way;
              is_way = outward_back k.originator k.lsa k.way k.is_way;
              is = k.is;
            },
          )
