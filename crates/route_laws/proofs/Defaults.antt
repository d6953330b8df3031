-- The worked topology in which the middle router announces a default route: candidates, premises,
-- and a packet that is forwarded past that router, by its longer route.
use Rattle.std.proofs.Common.{◌≡◌, ◌≢◌, ℕ, ◌<◌, ◌≤◌, inl, inr, [], ◌∷◌, arith, refl, ap, subst}
use Rattle.words.specs.Prefixes.{Network}
use Rattle.words.specs.declared.key.Key.{Key}
use Rattle.words.specs.declared.route.ExternalType.TheVariants.{Type1}
use Rattle.words.specs.declared.route.Route.{Route}
use Rattle.lsa.specs.declared.body.LsaBody.TheVariants as body
use Rattle.lsa.specs.declared.body.ExternalLsa.{ExternalLsa}
use Rattle.candidates.specs.Borders.{IsLongest}
use Rattle.routes.proofs.Prefixes.{one_prefix}
use Rattle.routes.specs.Candidates.{AreCandidates, Offers, OffersExternal, external_offer}
use Rattle.routes.specs.Candidates.Offers.{External}
use Rattle.routes.specs.Links.{Says}
use Rattle.routes.specs.Offers.{IsPrefix}
use Rattle.routes.specs.Contents.{Contents}
use Rattle.routes.specs.Summaries.IsBoundaryWay.{Inside}
use Rattle.routes.specs.declared.offer.Offer.{Offer}
use Rattle.routes.specs.declared.root.Root.{Root}
use Rattle.route_laws.specs.Worked.{of_external, router_lsa}
use Rattle.route_laws.proofs.Made.{linked, says}
use Rattle.route_laws.specs.Networks.IsAttached.{ToNetwork}
use Rattle.route_laws.specs.Networks.IsThere.{Attached}
use Rattle.route_laws.specs.Topologies.{Announces, ComesBefore, IsAnnouncedAt, external_key}
use Rattle.route_laws.specs.WorkedTopologies.{DefaultRoutesAreNoEnd, address, around_a_default}
use Rattle.route_laws.specs.WorkedTopologies.{between, default_left, default_lsa, default_middle}
use Rattle.route_laws.specs.WorkedTopologies.{default_prefix, default_right, default_route, left_id}
use Rattle.route_laws.specs.WorkedTopologies.{left_links, left_routes, middle_id, middle_links}
use Rattle.route_laws.specs.WorkedTopologies.{middle_routes, narrow, right_id, right_links}
use Rattle.route_laws.specs.WorkedTopologies.{right_routes, wide, with_default_lsa}
use Rattle.route_laws.proofs.ThreeRouters.{HasRow, at_left, at_middle, at_right, converged, has_row}
use Rattle.route_laws.proofs.ThreeRouters.{left_candidates_with, left_middle, lsa_of}
use Rattle.route_laws.proofs.ThreeRouters.{middle_candidates, narrow_longest, narrow_stub}
use Rattle.route_laws.proofs.ThreeRouters.{right_candidates_with, right_middle, said_in}
use Rattle.route_laws.proofs.ThreeRouters.{three_places}
use Rattle.route_laws.proofs.ExternalOffers.{CountsAsExternal, IsOfferOf, each_external}
use Rattle.route_laws.proofs.ExternalOffers.{is_offer_of, offered_directly, only_directly}
use Rattle.route_laws.proofs.OneOffer.{IsWayFrom, way}
use Rattle.route_laws.proofs.Parts.{one_of}
use Rattle.routes.specs.Summaries.{IsBoundaryWay}

abbrev default_says : Contents
default_says = said_in with_default_lsa

the_row : HasRow with_default_lsa
the_row = has_row (of_external 0 middle_id default_lsa ∷ []) refl refl refl
    (record { start = refl; routers = refl; links = refl })
    (record { start = refl; routers = refl; links = refl })
    (record { start = refl; routers = refl; links = refl })

-- ---- the AS-external-LSA

abbrev IsTheDefault : Key → ExternalLsa → Type 0
IsTheDefault k lsa = (k ≡ external_key 0 middle_id) × (lsa ≡ default_lsa)

the_default : (k : Key) (lsa : ExternalLsa) → Says default_says k (body.External lsa)
    → IsTheDefault k lsa
the_default = each_external IsTheDefault with_default_lsa (tt, (tt, (tt, ((refl, refl), tt))))

its_lsa : Says default_says (external_key 0 middle_id) (body.External default_lsa)
its_lsa = says with_default_lsa (external_key 0 middle_id) (body.External default_lsa) refl

-- ---- the default route of the routers at both ends

abbrev default_offer : Offer
default_offer = external_offer Type1 default_prefix default_lsa middle_id (way 5 2)

module _ (root : Root) (is_another : middle_id ≢ root.router)
    (there : IsWayFrom with_default_lsa root middle_id (way 5 2)) where
  counts : CountsAsExternal default_says root 0 middle_id default_lsa 0
  counts = record {
    its = its_lsa;
    reachable = omega arith;
    of_another = is_another;
    within = omega arith;
    mask = refl;
  }

  reaches : IsBoundaryWay default_says root middle_id (way 5 2)
  reaches = Inside (record {
    lsa = router_lsa (lsa_of middle_links);
    its = the_row.is_row.middle;
    has_e = refl;
    reached = there;
  })

  default_offered : Offers default_says root default_offer
  default_offered = External (offered_directly default_says root 0 middle_id default_lsa 0 counts
      refl (way 5 2) reaches)

  default_alone : (o : Offer) → OffersExternal default_says root o → default_offer ≡ o
  default_alone o x =
      each_external (λ (k : Key) (lsa : ExternalLsa). (y : Offer)
      → IsOfferOf default_says root k.link_state_id k.advertising_router lsa y
      → default_offer ≡ y) with_default_lsa (
        tt,
        (
          tt,
          (
            tt,
            (
              only_directly default_says root 0 middle_id default_lsa 0 counts refl (way 5 2)
                  reaches,
              tt,
            ),
          ),
        ),
      ) (external_key x.id x.originator) x.lsa x.its o (is_offer_of default_says root o x)

-- ---- the premises

to_left : AreCandidates default_says at_left (default_route ∷ left_routes)
to_left =
    let is_another : middle_id ≢ left_id = λ e. omega (arith, e) in
    let there = left_middle with_default_lsa (lsa_of left_links) (lsa_of middle_links)
    the_row.is_row the_row.from_left in
    left_candidates_with with_default_lsa (lsa_of left_links) (lsa_of middle_links) the_row.is_row
    the_row.from_left default_offer (default_offered at_left is_another there)
    (default_alone at_left is_another there) (omega arith)

to_right : AreCandidates default_says at_right (default_route ∷ right_routes)
to_right =
    let is_another : middle_id ≢ right_id = λ e. omega (arith, e) in
    let there = right_middle with_default_lsa 5 (lsa_of left_links) (lsa_of middle_links)
    the_row.is_row the_row.from_right in
    right_candidates_with with_default_lsa 5 (lsa_of left_links) (lsa_of middle_links)
    the_row.is_row the_row.from_right default_offer (default_offered at_right is_another there)
    (default_alone at_right is_another there) (omega arith)

-- the LSA is the middle router's own, which offers it nothing
to_middle : AreCandidates default_says at_middle middle_routes
to_middle = middle_candidates with_default_lsa the_row (λ o x. x.of_another
    (ap (λ (k : Key). k.advertising_router) (the_default _ x.lsa x.its).0))

-- ---- no router is the end

past_default : (a b c d e f : ℕ)
    → IsLongest (default_route ∷ between a b ∷ wide c d ∷ narrow e f ∷ []) address (narrow e f)
past_default a b c d e f = record {
  among = (3, omega arith, refl);
  under = refl;
  longest = λ r t u. one_of (λ (x : Route). x.prefix.length ≤ 24)
      (default_route ∷ between a b ∷ wide c d ∷ narrow e f ∷ []) (
        (let low : 0 ≤ 24 = omega arith in low),
        (
          (let low : 24 ≤ 24 = omega arith in low),
          (
            (let low : 23 ≤ 24 = omega arith in low),
            ((let low : 24 ≤ 24 = omega arith in low), tt),
          ),
        ),
      ) r t;
}

longest_middle : IsLongest default_middle.table address (narrow 10 4)
longest_middle = narrow_longest 5 1 10 2 10 4

-- what the middle router announces is shorter than its route
not_the_middle : Announces default_middle address → ⊥
not_the_middle a =
    let one = the_default _ a.tells.lsa a.tells.its in
    let P : ExternalLsa → Type 0 = λ l. IsPrefix a.tells.id l.mask a.prefix in
    let wide : IsPrefix a.tells.id 0 a.prefix = subst P one.1 a.tells.is_prefix in
    let prefix = one_prefix a.tells.id 0 0 a.prefix (omega arith) refl wide in
    let size : 0 ≡ a.prefix.length = ap (λ (n : Network). n.length) prefix in
    by_order size (a.before (narrow 10 4) longest_middle)
  where
    by_order : 0 ≡ a.prefix.length → ComesBefore a.prefix (narrow 10 4) → ⊥
    by_order size (inl less) = (let low : 24 < a.prefix.length = less in omega (arith, low, size))
    by_order size (inr same) = (let long : 24 ≡ a.prefix.length = same.0 in
        omega (arith, long, size))

no_end : (place : ℕ) → place ≢ 2 → IsAnnouncedAt around_a_default address place → ⊥
no_end place other x =
    three_places (λ at f. at ≢ 2 → Announces f address → ⊥) default_left default_middle
    default_right
    (λ _ a.
    let e : left_id ≡ middle_id = ap (λ (k : Key). k.advertising_router)
    (the_default _ a.tells.lsa a.tells.its).0 in
    omega (arith, e))
    (λ _ a. not_the_middle a)
    (λ same. absurd (same refl)) place x.forwarder x.stands other x.announces

pub default_routes_are_no_end : DefaultRoutesAreNoEnd
default_routes_are_no_end = record {
  converged = converged with_default_lsa the_row (default_route ∷ left_routes) middle_routes
      (default_route ∷ right_routes) to_left to_middle to_right;
  tells = record {
    id = 0;
    lsa = default_lsa;
    its = its_lsa;
    reachable = omega arith;
    is_prefix = (omega arith, refl, refl);
    under = refl;
  };
  handed_along = (
    record {
      forwarder = default_left;
      stands = refl;
      route = narrow 15 2;
      longest = past_default 10 2 5 1 15 2;
      interface = 1;
      away = omega arith;
      is_hop = refl;
      is_across = refl;
    },
    no_end 0 (λ e. omega (arith, e)),
    (
      record {
        forwarder = default_middle;
        stands = refl;
        route = narrow 10 4;
        longest = longest_middle;
        interface = 2;
        away = omega arith;
        is_hop = refl;
        is_across = refl;
      },
      no_end 1 (λ e. omega (arith, e)),
      tt,
    ),
  );
  is_there = Attached default_right refl (narrow 5 1) (past_default 10 2 15 2 5 1)
      (ToNetwork (
        narrow_stub,
        linked with_default_lsa right_id (lsa_of right_links) the_row.is_row.right narrow_stub
            (1, omega arith, refl),
        refl,
        (omega arith, refl, refl),
        refl,
      ));
}
