-- The way to an AS boundary router, from what was found about it.
use Rattle.std.proofs.Common.{◌≡◌, ℕ, ◌+◌, ◌<◌, List, arith, Some, None, refl, sym, ◌∙◌, ap, subst}
use Rattle.words.specs.Prefixes.{Network}
use Rattle.words.specs.declared.route.Route.{Route}
use Rattle.lsa.specs.declared.body.LsaBody.{LsaBody}
use Rattle.routes.specs.declared.graph.Way.{Way}
use Rattle.candidates.specs.Borders.{RouteCostsFit, FlaggedDistancesFit, IsBoundary, IsFound}
use Rattle.candidates.specs.Borders.{IsListed, IsLongest}
use Rattle.candidates.specs.Borders.{Tells, host, inner_way}
use Rattle.candidates.specs.Borders.IsBoundary.{Inside, Outside}
use Rattle.candidates.specs.Gathering.{IsOnly, OfEach}
use Rattle.candidates.specs.declared.flagged.Flagged.{Flagged}
use Rattle.routes.specs.Routes.{AreRoutesAmong}
use Rattle.routes.specs.declared.offer.Offer.{Offer}
use Rattle.routes.specs.declared.root.Root.{Root}
use Rattle.words.specs.declared.key.Key.{Key}

pub below_found : (routes : List Route) (prefix : Network) (route : Route) → RouteCostsFit routes
    → IsOnly (IsFound routes prefix) (Some route) → route.cost < 2147483648
below_found routes prefix route below just = below route ((just route).1 refl).among

pub below_longest : (routes : List Route) (address : ℕ) (route : Route) → RouteCostsFit routes
    → IsOnly (IsLongest routes address) (Some route) → route.cost < 2147483648
below_longest routes address route below just = below route ((just route).1 refl).among

module _ (routers : List Flagged) (advertised : List Route) (router : ℕ) where
  pub inside : (way : Way) → IsOnly (IsListed routers router 2) (Some way)
      → IsOnly (IsBoundary routers advertised router) (Some way)
  inside way just = λ x. (by_case x, λ e. Inside ((just x).1 e))
    where
      by_case : (x : Way) → IsBoundary routers advertised router x → x ≡ way
      by_case x (Inside k) = (just x).0 k
      by_case x (Outside none route f e) = absurd (none way ((just way).1 refl))

  module _ (prefix : Network) (is_host : prefix ≡ host router)
      (none : IsOnly (IsListed routers router 2) None) where
    pub no_boundary : IsOnly (IsFound advertised prefix) None
        → IsOnly (IsBoundary routers advertised router) None
    no_boundary unfound = λ x b. by_case x b
      where
        by_case : (x : Way) → IsBoundary routers advertised router x → ⊥
        by_case x (Inside k) = none x k
        by_case x (Outside others route f e) =
            unfound route (subst (λ p. IsFound advertised p route) (sym is_host) f)

    pub outside : (route : Route) (made : Way) → IsOnly (IsFound advertised prefix) (Some route)
        → made ≡ inner_way route → IsOnly (IsBoundary routers advertised router) (Some made)
    outside route made just is = λ x. (
      by_case x,
      λ e. Outside none route
          (subst (λ p. IsFound advertised p route) is_host ((just route).1 refl)) (e ∙ is),
    )
      where
        by_case : (x : Way) → IsBoundary routers advertised router x → x ≡ made
        by_case x (Inside k) = absurd (none x k)
        by_case x (Outside others other f e) =
            e ∙ ap inner_way ((just other).0
            (subst (λ p. IsFound advertised p other) (sym is_host) f))
            ∙ sym is

-- ---- what is advertised costs little

pub told_below : (root : Root) (routers : List Flagged) (bodies : List (Key × LsaBody))
    (routes : List Route) → FlaggedDistancesFit routers
    → AreRoutesAmong (OfEach (Tells root routers) bodies) routes → RouteCostsFit routes
told_below root routers bodies routes close all route among =
    let k = (all.each route).0 among in
    let t = k.is_best.offered.2 in
    let border = t.counts.reaches in
    let cost : k.first.cost ≡ t.border.distance + t.lsa.metric = ap (λ (o : Offer). o.cost) t.is in
    omega (
      arith,
      k.cost,
      cost,
      close border.listed border.among,
      ap (λ (w : Way). w.distance) border.its_way,
      t.counts.reachable,
    )
