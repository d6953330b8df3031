-- What depends on LSAs of types 1 to 4 alone: all ways, and all that is offered within and between
-- areas.
use Rattle.std.proofs.Common.{◌≡◌, ℕ, ◌≤◌, inl, inr, arith, sym, ◌∙◌}
use Rattle.words.specs.declared.key.Key.{Key}
use Rattle.words.specs.declared.route.Route.{Route}
use Rattle.lsa.specs.declared.body.ExternalLsa.{ExternalLsa}
use Rattle.lsa.specs.declared.body.SummaryLsa.{SummaryLsa}
use Rattle.words.specs.Prefixes.{Network}
use Rattle.routes.specs.Candidates.{IsExternalWay}
use Rattle.routes.specs.Links.{Leads, network_key, router_key}
use Rattle.routes.specs.Offers.{Attaches, OffersWithin, ReachesBoundaryRouter}
use Rattle.routes.specs.Paths.{IsWay, Way}
use Rattle.routes.specs.Routes.{IsForwarded, IsRouteAmong}
use Rattle.routes.specs.Contents.{Contents}
use Rattle.routes.specs.Summaries.{CountsAsSummary, IsBoundaryWay, IsAdvertised, IsWayBetween}
use Rattle.routes.specs.Summaries.{OffersBetween, OffersInside, ReachesBorderRouter, summary_key}
use Rattle.routes.specs.Summaries.IsBoundaryWay.{Inside, Outside}
use Rattle.routes.specs.declared.node.Node.{Node}
use Rattle.routes.specs.declared.node.Node.TheVariants.{ANetwork, ARouter}
use Rattle.routes.specs.declared.offer.Offer.{Offer}
use Rattle.routes.specs.declared.root.Root.{Root}
use Rattle.routes.proofs.Carried.{carried}
use Rattle.routes.proofs.OneMore.{same_offers}

-- what the LSAs of types 1 to 4 say
abbrev pub AgreeInside : Contents → Contents → Type 0
AgreeInside old new = (key : Key) → key.ls_type ≤ 4 → old key ≡ new key

pub turned : (old new : Contents) → AgreeInside old new → AgreeInside new old
turned old new same key low = sym (same key low)

-- ---- one direction

module _ (old new : Contents) (same : AgreeInside old new) (root : Root) where
  way : (node : Node) (w : Way) → IsWay (Leads old root) (ARouter root.router) node w
      → IsWay (Leads new root) (ARouter root.router) node w
  way node w is = carried old new root (λ key low. same key (omega (arith, low)))
      (ARouter root.router) node w is

  attaches : (node : Node) (prefix : Network) (more : ℕ) → Attaches old node prefix more
      → Attaches new node prefix more
  attaches (ANetwork id by) prefix more a =
      (a.0, sym (same (network_key id by) (omega arith)) ∙ a.1, a.2, a.3)
  attaches (ARouter router) prefix more a = (
    a.0,
    record {
      lsa = a.1.lsa;
      its = sym (same (router_key router) (omega arith)) ∙ a.1.its;
      among = a.1.among;
    },
    a.2,
    a.3,
    a.4,
  )

  within : (o : Offer) → OffersWithin old root o → OffersWithin new root o
  within o k = record {
    node = k.node;
    prefix = k.prefix;
    more = k.more;
    attached = attaches k.node k.prefix k.more k.attached;
    way = k.way;
    reached = way k.node k.way k.reached;
    hops = k.hops;
    by_root = k.by_root;
    by_others = k.by_others;
    is = k.is;
  }

  border : (router : ℕ) (w : Way) → ReachesBorderRouter old root router w
      → ReachesBorderRouter new root router w
  border router w k = record {
    lsa = k.lsa;
    its = sym (same (router_key router) (omega arith)) ∙ k.its;
    has_b = k.has_b;
    reached = way (ARouter router) w k.reached;
  }

  counts : (originator : ℕ) (lsa : SummaryLsa) (w : Way) → CountsAsSummary old root originator lsa w
      → CountsAsSummary new root originator lsa w
  counts originator lsa w k = record {
    reachable = k.reachable;
    of_another = k.of_another;
    reaches = border originator w k.reaches;
  }

  between : (o : Offer) → OffersBetween old root o → OffersBetween new root o
  between o k = record {
    id = k.id;
    originator = k.originator;
    lsa = k.lsa;
    its = sym (same (summary_key 3 k.id k.originator) (omega arith)) ∙ k.its;
    border = k.border;
    counts = counts k.originator k.lsa k.border k.counts;
    prefix = k.prefix;
    is_prefix = k.is_prefix;
    is = k.is;
  }

  pub inside : (o : Offer) → OffersInside old root o → OffersInside new root o
  inside o (inl k) = inl (within o k)
  inside o (inr k) = inr (between o k)

  boundary_inside : (router : ℕ) (w : Way) → ReachesBoundaryRouter old root router w
      → ReachesBoundaryRouter new root router w
  boundary_inside router w k = record {
    lsa = k.lsa;
    its = sym (same (router_key router) (omega arith)) ∙ k.its;
    has_e = k.has_e;
    reached = way (ARouter router) w k.reached;
  }

  advertised : (router distance : ℕ) (w : Way) → IsAdvertised old root router distance w
      → IsAdvertised new root router distance w
  advertised router distance w k = record {
    originator = k.originator;
    lsa = k.lsa;
    its = sym (same (summary_key 4 router k.originator) (omega arith)) ∙ k.its;
    counts = counts k.originator k.lsa w k.counts;
    is = k.is;
  }

-- ---- both directions

module _ (old new : Contents) (same : AgreeInside old new) (root : Root) where
  abbrev back : AgreeInside new old
  back = turned old new same

  way_between : (router : ℕ) (w : Way) → IsWayBetween old root router w
      → IsWayBetween new root router w
  way_between router w k = record {
    border = k.border;
    advertised = advertised old new same root router w.distance k.border k.advertised;
    least = λ distance other t. k.least distance other
        (advertised new old back root router distance other t);
    hops = λ i. (
      (λ t. let h = (k.hops i).0 t in (
        h.0,
        advertised old new same root router w.distance h.0 h.1,
        h.2,
      )),
      (λ h. (k.hops i).1 (h.0, advertised new old back root router w.distance h.0 h.1, h.2)),
    );
  }

  pub boundary : (router : ℕ) (w : Way) → IsBoundaryWay old root router w
      → IsBoundaryWay new root router w
  boundary router w (Inside k) = Inside (boundary_inside old new same root router w k)
  boundary router w (Outside none k) =
      Outside (λ other k. none other (boundary_inside new old back root router other k))
      (way_between router w k)

  route : (r : Route) → IsRouteAmong (OffersInside old root) r
      → IsRouteAmong (OffersInside new root) r
  route r k =
      same_offers (OffersInside old root) (OffersInside new root) r
      (λ o _. inside old new same root o) (λ o _. inside new old back root o) k

  route_back : (r : Route) → IsRouteAmong (OffersInside new root) r
      → IsRouteAmong (OffersInside old root) r
  route_back r k =
      same_offers (OffersInside new root) (OffersInside old root) r
      (λ o _. inside new old back root o) (λ o _. inside old new same root o) k

  forwarded : (address : ℕ) (w : Way) → IsForwarded (OffersInside old root) address w
      → IsForwarded (OffersInside new root) address w
  forwarded address w k = record {
    by = k.by;
    is_route = route k.by k.is_route;
    under = k.under;
    longest = λ other is under. k.longest other (route_back other is) under;
    is = k.is;
  }

  pub external_way : (originator : ℕ) (lsa : ExternalLsa) (w : Way)
      → IsExternalWay old root originator lsa w → IsExternalWay new root originator lsa w
  external_way originator lsa w k = record {
    boundary = k.boundary;
    reaches = boundary originator k.boundary k.reaches;
    direct = k.direct;
    forwarded = λ some. forwarded lsa.forwarding w (k.forwarded some);
  }
