-- The two worked routers: their ways, the offers, and the candidates of the nearer one.
use Rattle.std.proofs.Common.{◌≡◌, ℕ, inr, true, cond, nat_eq, List, [], ◌∷◌, arith, refl, sym, not}
use Rattle.std.specs.List.{AllByRecursion, Contains, list_all}
use Rattle.words.specs.declared.route.ExternalType.{ExternalType}
use Rattle.words.specs.declared.route.ExternalType.TheVariants.{Type1, Type2}
use Rattle.words.specs.declared.route.Route.{Route}
use Rattle.lsa.specs.declared.body.LsaBody.TheVariants as body
use Rattle.lsa.specs.declared.body.RouterLink.{RouterLink}
use Rattle.routes.specs.Candidates.{AreCandidates, Offers, OffersExternal, external_offer}
use Rattle.routes.specs.Candidates.Offers.{Between, External, Within}
use Rattle.routes.specs.Links.{IsRouterLsa}
use Rattle.routes.specs.declared.node.Node.TheVariants.{ARouter}
use Rattle.routes.specs.Offers.{OffersWithin, intra}
use Rattle.routes.specs.declared.offer.Offer.{Offer}
use Rattle.routes.specs.Routes.IsNoWorse.{ByCost}
use Rattle.routes.specs.Paths.{Step, Way}
use Rattle.route_laws.specs.Worked.{Entries, WorkedTwoRouters, abroad, abroad_lsa, database}
use Rattle.route_laws.specs.Worked.{far_links, ipv4, key, mask_24, near_links, near_router}
use Rattle.route_laws.specs.Worked.{network_24, next_network, own_network, router_lsa, stub}
use Rattle.route_laws.specs.Worked.{two_routers}
use Rattle.route_laws.proofs.Alone.{Known, StubOffer, alone, dearer, route_of}
use Rattle.route_laws.proofs.Entries.{sayings}
use Rattle.route_laws.proofs.Labels.{AreChecked}
use Rattle.route_laws.proofs.Made.{back, from_root, no_hop, only_one, says}
use Rattle.routes.specs.Contents.{Contents, contents_at}
use Rattle.route_laws.proofs.NoSummaries.{nothing_between}
use Rattle.routes.specs.Summaries.IsBoundaryWay.{Inside}
use Rattle.route_laws.proofs.Ordered.{ascend}
use Rattle.route_laws.proofs.Listed.{IsBeaten, beaten, candidates_in, elsewhere, has_route, itself}
use Rattle.route_laws.proofs.Listed.{lone, others_elsewhere}
use Rattle.route_laws.proofs.ExternalOffers.{CountsAsExternal, IsOfferOf, counts_24, each_external}
use Rattle.route_laws.proofs.ExternalOffers.{is_offer_of, offered_directly, only_directly}
use Rattle.route_laws.proofs.OneOffer.{IsWayFrom, Walk, each_stub, hops_at, hops_from, only_within}
use Rattle.route_laws.proofs.OneOffer.{stub_by, stub_within, way, way_to}
use Rattle.route_laws.proofs.Parts.{one_of}
use Rattle.routes.specs.Summaries.{IsBoundaryWay}
use Rattle.words.specs.declared.key.Key.{Key}
use Rattle.lsa.specs.declared.body.ExternalLsa.{ExternalLsa}
use Rattle.routes.specs.declared.node.Node.{Node}

abbrev pub near : ℕ
near = ipv4 1 1 1 1

abbrev pub far : ℕ
far = ipv4 2 2 2 2

abbrev pub distance : ℕ → ℕ
distance r = cond (nat_eq r far) 10 0

abbrev pub hops : ℕ → ℕ
hops r = cond (nat_eq r far) 2 0

abbrev pub own_offer : Offer
own_offer = intra (network_24 10 0 1) 10 1

abbrev pub other_offer : Offer
other_offer = intra (network_24 10 0 1) 20 2

abbrev pub next_offer : Offer
next_offer = intra (network_24 10 0 2) 15 2

-- the offers within the area
abbrev pub nearby : List Offer
nearby = own_offer ∷ other_offer ∷ next_offer ∷ []

pub own_is_better : IsBeaten own_offer other_offer
own_is_better e = inr (ByCost refl (omega arith), dearer own_offer other_offer refl (omega arith))

abbrev pub far_way : Way
far_way = way 10 2

abbrev own_stub : RouterLink
own_stub = stub (ipv4 10 0 1 0) mask_24 10

abbrev next_stub : RouterLink
next_stub = stub (ipv4 10 0 2 0) mask_24 5

module _ (others : Entries) (labels : AreChecked near_router (sayings (two_routers others)) distance
    hops) where
  abbrev contents : Contents
  contents = contents_at 0 (database (two_routers others))

  near_says : IsRouterLsa contents near (router_lsa near_links)
  near_says = says (two_routers others) (key 1 near near) (body.Router (router_lsa near_links)) refl

  far_says : IsRouterLsa contents far (router_lsa far_links)
  far_says = says (two_routers others) (key 1 far far) (body.Router (router_lsa far_links)) refl

  abbrev across : Step Node
  across = record { target = ARouter far; cost = 10; exit = 1 }

  across_link : Walk (two_routers others) near_router (across ∷ []) far
  across_link = (
    (
      from_root (two_routers others) near_router near_links near_says far
          (ipv4 10 0 1 1) 10 0 (0, omega arith, refl) (omega arith) refl,
      back (two_routers others) far far_links far_says near (ipv4 10 0 1 2) 10
          (0, omega arith, refl),
    ),
    refl,
  )

  near_way : IsWayFrom (two_routers others) near_router near (way 0 0)
  near_way = way_to (two_routers others) near_router distance hops labels near [] refl refl
      (λ i t. absurd (no_hop i t))

  far_is : IsWayFrom (two_routers others) near_router far far_way
  far_is = way_to (two_routers others) near_router distance hops labels far (across ∷ [])
      across_link refl (λ i t. (across, [], across_link, refl, sym (only_one i t)))

  -- the other one is an AS boundary router
  pub reaches_far : IsBoundaryWay contents near_router far far_way
  reaches_far = Inside (record {
    lsa = router_lsa far_links;
    its = far_says;
    has_e = refl;
    reached = far_is;
  })

  own_stub_is : StubOffer contents near_router near own_stub 24 own_offer
  own_stub_is = stub_by (two_routers others) near_router near own_stub 24 (way 0 0) 1 near_way
      (hops_at near_router near refl 0) (omega arith) refl

  other_stub_is : StubOffer contents near_router far own_stub 24 other_offer
  other_stub_is = stub_by (two_routers others) near_router far own_stub 24 far_way 2 far_is
      (hops_from near_router far (λ e. omega (arith, e)) 2) (omega arith) refl

  next_stub_is : StubOffer contents near_router far next_stub 24 next_offer
  next_stub_is = stub_by (two_routers others) near_router far next_stub 24 far_way 2 far_is
      (hops_from near_router far (λ e. omega (arith, e)) 2) (omega arith) refl

  abbrev IsNearby : ℕ × RouterLink → Type 0
  IsNearby x = Known 0 (two_routers others) near_router (λ o. Contains nearby o) x.0 x.1

  pub stubs : AllByRecursion IsNearby
      ((near, own_stub) ∷ (far, own_stub) ∷ (far, next_stub) ∷ [])
  stubs = (
    (24, own_offer, own_stub_is, (0, omega arith, refl)),
    (
      (24, other_offer, other_stub_is, (1, omega arith, refl)),
      ((24, next_offer, next_stub_is, (2, omega arith, refl)), tt),
    ),
  )

  pub own_is_offered : OffersWithin contents near_router own_offer
  own_is_offered = stub_within (two_routers others) near_router near near_links near_says own_stub
      (1, omega arith, refl) refl 24 own_offer own_stub_is

  pub next_is_offered : OffersWithin contents near_router next_offer
  next_is_offered = stub_within (two_routers others) near_router far far_links far_says next_stub
      (2, omega arith, refl) refl 24 next_offer next_stub_is

-- ---- without an external destination

plain_labels : AreChecked near_router (sayings (two_routers [])) distance hops
plain_labels = record { start = refl; routers = refl; links = refl }

abbrev plain : Contents
plain = contents_at 0 (database (two_routers []))

plain_offers : (o : Offer) → Offers plain near_router o → Contains nearby o
plain_offers = only_within (two_routers []) near_router nearby refl refl refl
    (stubs [] plain_labels)

within : AreCandidates plain near_router (own_network ∷ next_network ∷ [])
within =
    candidates_in plain near_router nearby plain_offers (own_network ∷ next_network ∷ []) (
      alone plain near_router own_offer (Within (own_is_offered [] plain_labels))
          (beaten (Offers plain near_router) nearby plain_offers own_offer
          (itself own_offer, (own_is_better, (elsewhere own_offer next_offer refl, tt)))),
      (
        alone plain near_router next_offer (Within (next_is_offered [] plain_labels))
            (lone (Offers plain near_router) nearby plain_offers 2 next_offer refl refl),
        tt,
      ),
    ) refl refl

-- ---- with an external destination

module _ (t : ExternalType) where
  abbrev abroad_says : Contents
  abroad_says = contents_at 0 (database (two_routers (abroad t)))

  abbrev abroad_offer : Offer
  abroad_offer = external_offer t (network_24 203 0 113) (abroad_lsa t) far far_way

  abbrev offers : List Offer
  offers = own_offer ∷ other_offer ∷ next_offer ∷ abroad_offer ∷ []

  abbrev routes : List Route
  routes = own_network ∷ next_network ∷ route_of abroad_offer ∷ []

  labels_abroad : AreChecked near_router (sayings (two_routers (abroad t))) distance hops
  labels_abroad = record { start = refl; routers = refl; links = refl }

  counts : CountsAsExternal abroad_says near_router (ipv4 203 0 113 0) far (abroad_lsa t) 24
  counts = counts_24 (two_routers (abroad t)) near_router (ipv4 203 0 113 0) far (abroad_lsa t) refl
      (omega arith) (λ e. omega (arith, e)) refl

  abroad_is : (o : Offer) → OffersExternal abroad_says near_router o → abroad_offer ≡ o
  abroad_is o x =
      each_external (λ (k : Key) (lsa : ExternalLsa). (y : Offer)
      → IsOfferOf abroad_says near_router k.link_state_id k.advertising_router lsa y
      → abroad_offer ≡ y) (two_routers (abroad t)) (
        tt,
        (
          tt,
          (
            only_directly abroad_says near_router (ipv4 203 0 113 0) far (abroad_lsa t) 24 counts
                refl far_way (reaches_far (abroad t) labels_abroad),
            tt,
          ),
        ),
      ) (key 5 x.id x.originator) x.lsa x.its o (is_offer_of abroad_says near_router o x)

  all_offers : (o : Offer) → Offers abroad_says near_router o → Contains offers o
  all_offers o (Within x) = one_of (λ (y : Offer). Contains offers y) nearby
      ((0, omega arith, refl), ((1, omega arith, refl), ((2, omega arith, refl), tt))) o
      (each_stub (two_routers (abroad t)) near_router (λ y. Contains nearby y) refl
      (stubs (abroad t) labels_abroad) o x)
  all_offers o (Between x) = absurd
      (nothing_between 0 (two_routers (abroad t)) refl near_router o x)
  all_offers o (External x) = (3, omega arith, abroad_is o x)

  -- the networks of the offers and of the routes, whatever the type
  record AreApart : Type 0 where
    of_own : not (nat_eq abroad_offer.prefix.address own_offer.prefix.address) ≡ true
    of_next : others_elsewhere 2 next_offer offers ≡ true
    of_abroad : others_elsewhere 3 abroad_offer offers ≡ true
    covered : list_all (λ (o : Offer). has_route routes o.prefix) offers ≡ true
    up : ascend (λ (r : Route). r.prefix) routes ≡ true

  all_three : AreApart → AreCandidates abroad_says near_router routes
  all_three far_apart =
      candidates_in abroad_says near_router offers all_offers routes (
        alone abroad_says near_router own_offer (Within (own_is_offered (abroad t) labels_abroad))
            (beaten (Offers abroad_says near_router) offers all_offers own_offer (
              itself own_offer,
              (
                own_is_better,
                (
                  elsewhere own_offer next_offer refl,
                  (elsewhere own_offer abroad_offer far_apart.of_own, tt),
                ),
              ),
            )),
        (
          alone abroad_says near_router next_offer
              (Within (next_is_offered (abroad t) labels_abroad))
              (lone (Offers abroad_says near_router) offers all_offers 2 next_offer refl
              far_apart.of_next),
          (
            alone abroad_says near_router abroad_offer
                (External (offered_directly abroad_says near_router (ipv4 203 0 113 0) far
                (abroad_lsa t) 24 counts refl far_way (reaches_far (abroad t) labels_abroad)))
                (lone (Offers abroad_says near_router) offers all_offers 3 abroad_offer refl
                far_apart.of_abroad),
            tt,
          ),
        ),
      ) far_apart.covered far_apart.up

pub worked : WorkedTwoRouters
worked = record {
  within = within;
  type_1 = all_three Type1 (record {
    of_own = refl;
    of_next = refl;
    of_abroad = refl;
    covered = refl;
    up = refl;
  });
  type_2 = all_three Type2 (record {
    of_own = refl;
    of_next = refl;
    of_abroad = refl;
    covered = refl;
    up = refl;
  });
}
