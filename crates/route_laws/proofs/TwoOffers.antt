-- The worked offers: of two tags the least, of two distances the nearer, of two metrics the lesser.
use Rattle.std.proofs.Common.{◌≡◌, inr, IsTrue, [], ◌∷◌, arith, refl, sym, ◌∙◌, subst}
use Rattle.std.specs.List.{Contains}
use Rattle.words.specs.Interfaces.{has_interface}
use Rattle.words.specs.declared.route.Route.{Route}
use Rattle.words.specs.declared.route.RouteKind.TheVariants.{External1, External2}
use Rattle.routes.specs.Routes.{AreRoutesAmong, IsBestAmong, IsNoLater, IsNoWorse, IsRouteAmong}
use Rattle.routes.specs.Routes.IsNoLater.{ByTag}
use Rattle.routes.specs.Routes.IsNoWorse.{ByCost, ByDistance, ByKind}
use Rattle.routes.specs.declared.offer.Offer.{Offer}
use Rattle.routes.proofs.Determined.{one_route}
use Rattle.routes.proofs.Lists.{first_is}
use Rattle.route_laws.specs.WorkedOffers.{WorkedOffers, by_metric_10, inter_15, intra_100}
use Rattle.route_laws.specs.WorkedOffers.{metric_10, metric_20, offer_of, route_to, two_distances}
use Rattle.route_laws.specs.WorkedOffers.{two_kinds, two_metrics, two_tags, within_100}
use Rattle.route_laws.proofs.Alone.{IsAloneAmong, alone_among, no_worse_itself}
use Rattle.route_laws.proofs.Ordered.{in_order}
use Rattle.route_laws.proofs.Listed.{beaten, itself}
use Rattle.route_laws.proofs.Parts.{one_of}

-- if all offers are for the prefix of one route, it is the only one
only : (IsOffered : Offer → Type 0) (r : Route) → IsRouteAmong IsOffered r
    → ((o : Offer) → IsOffered o → o.prefix ≡ r.prefix) → AreRoutesAmong IsOffered (r ∷ [])
only IsOffered r is all = record {
  each = λ s. (
    one_of (λ (x : Route). IsRouteAmong IsOffered x) (r ∷ []) (is, tt) s,
    (λ k.
        let P : Route → Type 0 = λ x. Contains (r ∷ []) x in
        let same : r ≡ s = one_route IsOffered r s is k
        (sym (all k.first k.is_best.offered) ∙ k.is_best.is_for) in
        subst P same (first_is r [])),
  );
  ascending = in_order (λ (x : Route). x.prefix) (r ∷ []) refl;
}

-- ---- two tags

abbrev five : Offer
five = offer_of External1 0 2 5

abbrev three : Offer
three = offer_of External1 0 2 3

abbrev IsTagged : Offer → Type 0
IsTagged o = Contains two_tags o

three_is_best : IsBestAmong IsTagged three.prefix three
three_is_best = record {
  offered = (1, omega arith, refl);
  is_for = refl;
  best = λ o offered e. one_of (λ (x : Offer). IsNoWorse three x) two_tags
      (ByDistance refl refl (omega arith), (no_worse_itself three, tt)) o offered;
}

tagged : IsRouteAmong IsTagged (route_to External1 0 2 3)
tagged = record {
  first = three;
  is_best = three_is_best;
  earliest = λ o best. one_of (λ (x : Offer). IsNoLater three x) two_tags
      (ByTag refl (omega arith), (ByTag refl (omega arith), tt)) o best.offered;
  kind = refl;
  cost = refl;
  distance = refl;
  tag = refl;
  hops = λ i. (
    (λ t. (three, three_is_best, t)),
    (λ h. one_of (λ (x : Offer). IsTrue (has_interface x.hops i) → IsTrue (has_interface 2 i))
        two_tags ((λ t. t), ((λ t. t), tt)) h.0 h.1.offered h.2),
  );
}

-- ---- two distances

abbrev near : Offer
near = offer_of External2 10 2 0

abbrev farther : Offer
farther = offer_of External2 20 4 0

not_better : IsNoWorse farther near → ⊥
not_better (ByKind p) = omega (arith, p)
not_better (ByCost p q) = omega (arith, q)
not_better (ByDistance p q r) = omega (arith, r)

abbrev IsEither : Offer → Type 0
IsEither o = Contains two_distances o

near_alone : IsAloneAmong IsEither near
near_alone = beaten IsEither two_distances (λ o t. t) near
    (itself near, ((λ e. inr (ByDistance refl refl (omega arith), not_better)), tt))

-- ---- two metrics

no_cheaper : IsNoWorse metric_20 metric_10 → ⊥
no_cheaper (ByKind p) = omega (arith, p)
no_cheaper (ByCost p q) = omega (arith, q)
no_cheaper (ByDistance p q r) = omega (arith, q)

abbrev IsOfMetric : Offer → Type 0
IsOfMetric o = Contains two_metrics o

lesser_alone : IsAloneAmong IsOfMetric metric_10
lesser_alone = beaten IsOfMetric two_metrics (λ o t. t) metric_10
    ((λ e. inr (ByCost refl (omega arith), no_cheaper)), (itself metric_10, tt))

-- ---- two kinds

no_kinder : IsNoWorse inter_15 intra_100 → ⊥
no_kinder (ByKind p) = omega (arith, p)
no_kinder (ByCost p q) = omega (arith, p)
no_kinder (ByDistance p q r) = omega (arith, p)

abbrev IsOfKind : Offer → Type 0
IsOfKind o = Contains two_kinds o

inner_alone : IsAloneAmong IsOfKind intra_100
inner_alone = beaten IsOfKind two_kinds (λ o t. t) intra_100
    ((λ e. inr (ByKind (omega arith), no_kinder)), (itself intra_100, tt))

pub worked : WorkedOffers
worked = record {
  least_tag = only IsTagged (route_to External1 0 2 3) tagged
      (one_of (λ (x : Offer). x.prefix ≡ three.prefix) two_tags (refl, (refl, tt)));
  nearer =
      only IsEither (route_to External2 10 2 0)
      (alone_among IsEither near (first_is near (farther ∷ [])) near_alone)
      (one_of (λ (x : Offer). x.prefix ≡ near.prefix) two_distances (refl, (refl, tt)));
  metric_first =
      only IsOfMetric by_metric_10 (alone_among IsOfMetric metric_10 (1, omega arith, refl)
      lesser_alone)
      (one_of (λ (x : Offer). x.prefix ≡ metric_10.prefix) two_metrics (refl, (refl, tt)));
  within_first =
      only IsOfKind within_100 (alone_among IsOfKind intra_100 (1, omega arith, refl) inner_alone)
      (one_of (λ (x : Offer). x.prefix ≡ intra_100.prefix) two_kinds (refl, (refl, tt)));
}
