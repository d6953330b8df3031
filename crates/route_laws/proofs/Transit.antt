-- The worked transit network: its ways, the offers, and the candidates.
use Rattle.std.proofs.Common.{◌≡◌, ◌≢◌, ℕ, ◌≤◌, ◌⊎◌, inl, inr, Bool, true, cond, not, ◌||◌, IsTrue}
use Rattle.std.proofs.Common.{nat_eq, eqb-true, List, [], ◌∷◌, filter, bit_and, arith, refl, sym}
use Rattle.std.proofs.Common.{subst, Some, slice_get}
use Rattle.std.specs.List.{AllByRecursion, Contains}
use Rattle.words.specs.Interfaces.{has_interface}
use Rattle.words.specs.Prefixes.{Network}
use Rattle.words.specs.declared.key.Key.{Key}
use Rattle.words.specs.declared.route.ExternalType.TheVariants.{Type1}
use Rattle.words.specs.declared.route.Route.{Route}
use Rattle.lsa.specs.declared.body.LsaBody.{LsaBody}
use Rattle.lsa.specs.declared.body.LsaBody.TheVariants as body
use Rattle.lsa.specs.declared.body.ExternalLsa.{ExternalLsa}
use Rattle.lsa.specs.declared.body.RouterLink.{RouterLink}
use Rattle.routes.specs.Candidates.{IsBest, IsCandidate, Offers, external_offer}
use Rattle.routes.specs.Routes.IsNoLater.{ByOriginator, ByTag}
use Rattle.routes.specs.Candidates.Offers.{Between, External, Within}
use Rattle.routes.specs.Links.{IsRouterLsa, Leads, ListsRouter}
use Rattle.routes.specs.declared.node.Node.{Node}
use Rattle.routes.specs.declared.node.Node.TheVariants.{ANetwork, ARouter}
use Rattle.routes.specs.Offers.{OffersWithin, intra}
use Rattle.routes.specs.declared.offer.Offer.{Offer}
use Rattle.routes.specs.Paths.{IsWay, Step, Way}
use Rattle.route_laws.specs.Worked.{database, ipv4, key, mask_24, network_24, router_lsa, stub}
use Rattle.route_laws.specs.WorkedExternals.{external}
use Rattle.route_laws.specs.WorkedTransit.{WorkedTransit, behind_route, designated_links, inner_lsa}
use Rattle.route_laws.specs.WorkedTransit.{longest_route, network_8, network_lsa, other_links}
use Rattle.route_laws.specs.WorkedTransit.{root_links, shared_route, transit, transit_entries}
use Rattle.route_laws.specs.WorkedTransit.{transit_root, transit_route, wide_route}
use Rattle.route_laws.proofs.Alone.{IsAlone, StubOffer, alone, alone_among, is_stub}
use Rattle.route_laws.proofs.Alone.{no_worse_itself, route_of}
use Rattle.route_laws.proofs.Entries.{all_pass, is_said, links_of, sayings}
use Rattle.route_laws.proofs.Labels.{AreLabels, subset, way_by}
use Rattle.route_laws.proofs.Made.{back, from_root, linked, one_or_two, only_one, says}
use Rattle.route_laws.proofs.NetworkLabels.{AreRising, IsNetworkKnown, IsStubKnown, at, each_offer}
use Rattle.route_laws.proofs.NetworkLabels.{rising, unreached}
use Rattle.route_laws.proofs.Parts.{apart, one_of}
use Rattle.routes.specs.Contents.{Contents, contents_at}
use Rattle.routes.specs.Routes.{IsForwarded, IsNoLater, IsNoWorse, IsRouteAmong}
use Rattle.route_laws.proofs.NoSummaries.{is_inside, is_within, nothing_between}
use Rattle.routes.specs.Summaries.IsBoundaryWay.{Inside}
use Rattle.routes.specs.Summaries.{IsBoundaryWay, OffersInside}
use Rattle.route_laws.proofs.Listed.{candidates_in, each_route, lone, others_elsewhere}
use Rattle.route_laws.proofs.ExternalOffers.{CountsAsExternal, EachExternal, IsOfferOf, counts_24}
use Rattle.route_laws.proofs.ExternalOffers.{each_external, is_offer_of, offered_by_address}
use Rattle.route_laws.proofs.ExternalOffers.{offered_directly, only_by_address, only_directly}
use Rattle.route_laws.proofs.OneOffer.{hops_from, stub_by, stub_within, way}

abbrev contents : Contents
contents = contents_at 0 (database transit_entries)

abbrev root : ℕ
root = ipv4 1 1 1 1

abbrev designated : ℕ
designated = ipv4 2 2 2 2

abbrev other : ℕ
other = ipv4 3 3 3 3

abbrev unlinked : ℕ
unlinked = ipv4 4 4 4 4

abbrev inner : ℕ
inner = ipv4 5 5 5 5

abbrev network : ℕ
network = ipv4 10 1 0 2

abbrev dr : ℕ → ℕ
dr r = cond (nat_eq r designated) 10 (cond (nat_eq r other || nat_eq r inner) 15 0)

abbrev hr : ℕ → ℕ
hr r = cond (nat_eq r designated) 2 (cond (nat_eq r other) 6 (cond (nat_eq r inner) 2 0))

abbrev dn : ℕ → ℕ → ℕ
dn id by = 15

abbrev hn : ℕ → ℕ → ℕ
hn id by = 2

labels : AreRising transit_root (sayings transit_entries) dr hr dn hn
labels = record { start = refl; points = refl; enters = refl; leaves = refl }

abbrev leads : Node → Step Node → Type 0
leads = Leads contents transit_root

-- ---- links

root_says : IsRouterLsa contents root (router_lsa root_links)
root_says = says transit_entries (key 1 root root) (body.Router (router_lsa root_links)) refl

designated_says : IsRouterLsa contents designated (router_lsa designated_links)
designated_says = says transit_entries (key 1 designated designated)
    (body.Router (router_lsa designated_links)) refl

other_says : IsRouterLsa contents other (router_lsa other_links)
other_says = says transit_entries (key 1 other other) (body.Router (router_lsa other_links)) refl

inner_says : IsRouterLsa contents inner inner_lsa
inner_says = says transit_entries (key 1 inner inner) (body.Router inner_lsa) refl

lists : (n router : ℕ) → Contains network_lsa.attached router
    → ListsRouter contents network designated router
lists n router among = record {
  lsa = network_lsa;
  its = says transit_entries (key 2 network designated)
      (body.Network network_lsa) refl;
  among = among;
}

abbrev to_designated : Step Node
to_designated = record { target = ARouter designated; cost = 10; exit = 1 }

abbrev to_other : Step Node
to_other = record { target = ARouter other; cost = 15; exit = 2 }

abbrev to_network : Step Node
to_network = record { target = ANetwork network designated; cost = 5; exit = 0 }

abbrev over_network : ℕ → Step Node
over_network router = record { target = ARouter router; cost = 0; exit = 0 }

first_link : leads (ARouter root) to_designated
first_link = (
  from_root transit_entries transit_root root_links root_says designated (ipv4 10 0 1 1)
      10 0 (0, omega arith, refl) (omega arith) refl,
  back transit_entries designated designated_links designated_says root (ipv4 10 0 1 2) 10
      (0, omega arith, refl),
)

second_link : leads (ARouter root) to_other
second_link = (
  from_root transit_entries transit_root root_links root_says other (ipv4 10 0 2 1) 15
      1 (1, omega arith, refl) (omega arith) refl,
  back transit_entries other other_links other_says root (ipv4 10 0 2 2) 15
      (0, omega arith, refl),
)

abbrev designated_link : RouterLink
designated_link = transit network (ipv4 10 1 0 2) 5

abbrev other_link : RouterLink
other_link = transit network (ipv4 10 1 0 3) 1

abbrev inner_link : RouterLink
inner_link = transit network (ipv4 10 1 0 5) 1

network_link : leads (ARouter designated) to_network
network_link = (
  record {
    link = designated_link;
    its = linked transit_entries designated designated_links designated_says designated_link
        (1, omega arith, refl);
    is_kind = refl;
    is_id = refl;
    costs = refl;
    not_free = omega arith;
    by_interface = λ e. absurd (let same : designated ≡ root = e in omega (arith, same));
    elsewhere = λ _. refl;
  },
  lists 0 designated (0, omega arith, refl),
)

other_member : leads (ANetwork network designated) (over_network other)
other_member = (
  lists 1 other (1, omega arith, refl),
  (
    other_link,
    linked transit_entries other other_links other_says other_link
        (1, omega arith, refl),
    refl,
    refl,
  ),
  refl,
  refl,
)

inner_member : leads (ANetwork network designated) (over_network inner)
inner_member = (
  lists 3 inner (3, omega arith, refl),
  (
    inner_link,
    record {
      lsa = inner_lsa;
      its = inner_says;
      among = (0, omega arith, refl);
    },
    refl,
    refl,
  ),
  refl,
  refl,
)

-- ---- ways

are : AreLabels leads (ARouter root) (at dr dn) (at hr hn)
are = rising transit_root 0 transit_entries dr hr dn hn labels

designated_way : IsWay leads (ARouter root) (ARouter designated) (way 10 2)
designated_way = way_by leads (ARouter root) (at dr dn) (at hr hn) are (ARouter designated)
    (to_designated ∷ []) (first_link, refl) refl
    (λ i t. (to_designated, [], (first_link, refl), refl, sym (only_one i t)))

network_way : IsWay leads (ARouter root) (ANetwork network designated) (way 15 2)
network_way = way_by leads (ARouter root) (at dr dn) (at hr hn) are (ANetwork network designated)
    (to_designated ∷ to_network ∷ []) (first_link, (network_link, refl)) refl
    (λ i t. (
      to_designated,
      to_network ∷ [],
      (first_link, (network_link, refl)),
      refl,
      sym (only_one i t),
    ))

inner_way : IsWay leads (ARouter root) (ARouter inner) (way 15 2)
inner_way = way_by leads (ARouter root) (at dr dn) (at hr hn) are (ARouter inner)
    (to_designated ∷ to_network ∷ over_network inner ∷ [])
    (first_link, (network_link, (inner_member, refl))) refl
    (λ i t. (
      to_designated,
      to_network ∷ over_network inner ∷ [],
      (first_link, (network_link, (inner_member, refl))),
      refl,
      sym (only_one i t),
    ))

other_way : IsWay leads (ARouter root) (ARouter other) (way 15 6)
other_way = way_by leads (ARouter root) (at dr dn) (at hr hn) are (ARouter other) (to_other ∷ [])
    (second_link, refl) refl
    (λ i t. elim (one_or_two i t) [
      | inl e ↦ (
        to_designated,
        to_network ∷ over_network other ∷ [],
        (first_link, (network_link, (other_member, refl))),
        refl,
        sym e,
      )
      | inr e ↦ (to_other, [], (second_link, refl), refl, sym e)
    ])

never_unlinked : (way : Way) → IsWay leads (ARouter root) (ARouter unlinked) way → ⊥
never_unlinked = unreached transit_root 0 transit_entries unlinked refl (λ e. omega (arith, e))

-- ---- the offers within the area

abbrev wide_offer : Offer
wide_offer = intra (network_8 10) 11 2

abbrev network_offer : Offer
network_offer = intra (network_24 10 1 0) 15 2

abbrev behind_offer : Offer
behind_offer = intra (network_24 192 0 2) 25 6

abbrev nearby : List Offer
nearby = wide_offer ∷ network_offer ∷ behind_offer ∷ []

abbrev IsNearby : Offer → Type 0
IsNearby o = Contains nearby o

abbrev wide_stub : RouterLink
wide_stub = stub (ipv4 10 0 0 0) (ipv4 255 0 0 0) 1

abbrev behind_stub : RouterLink
behind_stub = stub (ipv4 192 0 2 0) mask_24 10

wide_is : StubOffer contents transit_root designated wide_stub 8 wide_offer
wide_is = stub_by transit_entries transit_root designated wide_stub 8 (way 10 2) 2
    designated_way (hops_from transit_root designated (λ e. omega (arith, e)) 2) (omega arith) refl

behind_is : StubOffer contents transit_root other behind_stub 24 behind_offer
behind_is = stub_by transit_entries transit_root other behind_stub 24 (way 15 6) 6 other_way
    (hops_from transit_root other (λ e. omega (arith, e)) 6) (omega arith) refl

stubs_known : AllByRecursion (λ (x : ℕ × RouterLink). IsStubKnown 0 transit_entries transit_root
    IsNearby
    x.0 x.1) (filter is_stub (links_of (sayings transit_entries)))
stubs_known = (
  inr (8, wide_offer, wide_is, (0, omega arith, refl)),
  (inr (24, behind_offer, behind_is, (2, omega arith, refl)), (inl never_unlinked, tt)),
)

abbrev IsSayingKnown : Key → LsaBody → Type 0
IsSayingKnown k (body.Router r) = Unit {0}
IsSayingKnown k (body.Network n) =
    IsNetworkKnown 0 transit_entries transit_root IsNearby k.link_state_id k.advertising_router n
IsSayingKnown k (body.NetworkSummary s) = Unit {0}
IsSayingKnown k (body.RouterSummary s) = Unit {0}
IsSayingKnown k (body.External e) = Unit {0}

networks_known : AllByRecursion (λ (s : Key × LsaBody). IsSayingKnown s.0 s.1)
    (sayings transit_entries)
networks_known = (
  tt,
  (
    tt,
    (
      tt,
      (
        tt,
        (
          tt,
          (
            (
              24,
              network_offer,
              record {
                way = record {
                  distance = 15;
                  hops = 2;
                };
                reached = network_way;
                within = omega arith;
                mask = refl;
                is = refl;
              },
              (1, omega arith, refl),
            ),
            (tt, (tt, (tt, (tt, (tt, tt))))),
          ),
        ),
      ),
    ),
  ),
)

within : (o : Offer) → OffersWithin contents transit_root o → Contains nearby o
within o x =
    each_offer 0 transit_entries transit_root IsNearby
    (λ router l t. one_of (λ (y : ℕ × RouterLink). IsStubKnown 0 transit_entries transit_root
    IsNearby y.0
    y.1) (filter is_stub (links_of (sayings transit_entries))) stubs_known (router, l) t)
    (λ id by lsa t. one_of (λ (s : Key × LsaBody). IsSayingKnown s.0 s.1) (sayings transit_entries)
    networks_known (
      record {
        ls_type = 2;
        link_state_id = id;
        advertising_router = by;
      },
      body.Network lsa,
    ) t) o x

wide_there : OffersWithin contents transit_root wide_offer
wide_there = stub_within transit_entries transit_root designated designated_links designated_says
    wide_stub (2, omega arith, refl) refl 8 wide_offer wide_is

network_there : OffersWithin contents transit_root network_offer
network_there = record {
  node = ANetwork network designated;
  prefix = network_24 10 1 0;
  more = 0;
  attached = (
    network_lsa,
    says transit_entries (key 2 network designated)
        (body.Network network_lsa) refl,
    (omega arith, refl, refl),
    refl,
  );
  way = record { distance = 15; hops = 2 };
  reached = network_way;
  hops = 2;
  by_root = λ e. absurd (cc);
  by_others = λ _. refl;
  is = refl;
}

behind_there : OffersWithin contents transit_root behind_offer
behind_there = stub_within transit_entries transit_root other other_links other_says behind_stub
    (2, omega arith, refl) refl 24 behind_offer behind_is

nearby_inside : (o : Offer) → OffersInside contents transit_root o → Contains nearby o
nearby_inside o x = within o (is_within 0 transit_entries refl transit_root o x)

-- ---- the forwarding address, which is in both of the nearer networks

abbrev forwarding : ℕ
forwarding = ipv4 10 1 0 9

abbrev forward_way : Way
forward_way = record { distance = 15; hops = 2 }

-- the offers within the area have such prefixes
lengths : (r : Route) → IsRouteAmong (OffersInside contents transit_root) r → r.prefix.length ≤ 24
lengths = each_route (OffersInside contents transit_root) nearby nearby_inside
    (λ (n : Network). n.length ≤ 24) (omega arith, (omega arith, (omega arith, tt)))

forwarded_way : IsForwarded (OffersInside contents transit_root) forwarding forward_way
forwarded_way = record {
  by = route_of network_offer;
  is_route = alone_among (OffersInside contents transit_root) network_offer (inl network_there)
      (lone (OffersInside contents transit_root) nearby nearby_inside 1 network_offer refl refl);
  under = refl;
  longest = λ r k u. lengths r k;
  is = refl;
}

-- ---- what the AS-external-LSAs offer

reaches_designated : IsBoundaryWay contents transit_root designated (way 10 2)
reaches_designated = Inside (record {
  lsa = router_lsa designated_links;
  its = designated_says;
  has_e = refl;
  reached = designated_way;
})

reaches_other : IsBoundaryWay contents transit_root other (way 15 6)
reaches_other = Inside (record {
  lsa = router_lsa other_links;
  its = other_says;
  has_e = refl;
  reached = other_way;
})

abbrev designated_lsa : ExternalLsa
designated_lsa = external Type1 25 0 9

abbrev other_lsa : ExternalLsa
other_lsa = external Type1 20 0 1

abbrev forwarded_lsa : ExternalLsa
forwarded_lsa = external Type1 20 forwarding 0

abbrev plain_lsa : ExternalLsa
plain_lsa = external Type1 20 0 0

abbrev shared_net : Network
shared_net = network_24 203 0 113

abbrev designated_offer : Offer
designated_offer = external_offer Type1 shared_net designated_lsa designated (way 10 2)

abbrev other_offer : Offer
other_offer = external_offer Type1 shared_net other_lsa other (way 15 6)

abbrev forwarded_offer : Offer
forwarded_offer = external_offer Type1 (network_24 203 0 114) forwarded_lsa designated forward_way

abbrev offers : List Offer
offers = wide_offer ∷ network_offer ∷ behind_offer ∷ designated_offer ∷ other_offer
    ∷ forwarded_offer ∷ []

abbrev IsKnown : Key → ExternalLsa → Type 0
IsKnown k lsa = (o : Offer)
    → IsOfferOf contents transit_root k.link_state_id k.advertising_router lsa o → Contains offers o

designated_counts : CountsAsExternal contents transit_root (ipv4 203 0 113 0) designated
    designated_lsa
    24
designated_counts = counts_24 transit_entries transit_root (ipv4 203 0 113 0) designated
    designated_lsa refl (omega arith) (λ e. omega (arith, e)) refl

other_counts : CountsAsExternal contents transit_root (ipv4 203 0 113 0) other other_lsa 24
other_counts = counts_24 transit_entries transit_root (ipv4 203 0 113 0) other other_lsa refl
    (omega arith) (λ e. omega (arith, e)) refl

forwarded_counts : CountsAsExternal contents transit_root (ipv4 203 0 114 0) designated
    forwarded_lsa 24
forwarded_counts = counts_24 transit_entries transit_root (ipv4 203 0 114 0) designated
    forwarded_lsa refl (omega arith) (λ e. omega (arith, e)) refl

is_forwarded : forwarded_lsa.forwarding ≢ 0
is_forwarded e = let z : ipv4 10 1 0 9 ≡ 0 = e in omega (arith, z)

designated_known : IsKnown (key 5 (ipv4 203 0 113 0) designated) designated_lsa
designated_known o g = (
  3,
  omega arith,
  only_directly contents transit_root (ipv4 203 0 113 0) designated designated_lsa 24
      designated_counts refl (way 10 2) reaches_designated o g,
)

other_known : IsKnown (key 5 (ipv4 203 0 113 0) other) other_lsa
other_known o g = (
  4,
  omega arith,
  only_directly contents transit_root (ipv4 203 0 113 0) other other_lsa 24 other_counts refl
      (way 15 6) reaches_other o g,
)

forwarded_known : IsKnown (key 5 (ipv4 203 0 114 0) designated) forwarded_lsa
forwarded_known o g = (
  5,
  omega arith,
  only_by_address contents transit_root (ipv4 203 0 114 0) designated forwarded_lsa 24
      forwarded_counts is_forwarded forward_way forwarded_way o g,
)

-- the router-LSA of the inner router doesn't have flag E
abbrev has_no_e : LsaBody → Bool
has_no_e (body.Router r) = nat_eq (bit_and r.flags 2) 0
has_no_e (body.Network n) = true
has_no_e (body.NetworkSummary s) = true
has_no_e (body.RouterSummary s) = true
has_no_e (body.External e) = true

abbrev is_plain : Key × LsaBody → Bool
is_plain s = not (nat_eq s.0.link_state_id inner) || has_no_e s.1

by_inner : IsKnown (key 5 (ipv4 203 0 115 0) inner) plain_lsa
by_inner o g =
    let reaches = is_inside 0 transit_entries refl transit_root inner g.is_way.boundary
    g.is_way.reaches in
    let lsa = reaches.lsa in
    let t = is_said 0 transit_entries (key 1 inner inner) (body.Router lsa) reaches.its in
    let e : has_no_e (body.Router lsa) ≡ true =
    all_pass is_plain (sayings transit_entries) refl (key 1 inner inner, body.Router lsa) t in
    let without : bit_and lsa.flags 2 ≡ 0 = eqb-true (bit_and lsa.flags 2) 0 e in
    let with : bit_and lsa.flags 2 ≡ 2 = reaches.has_e in
    absurd (omega (arith, without, with))

by_unlinked : IsKnown (key 5 (ipv4 203 0 116 0) unlinked) plain_lsa
by_unlinked o g = absurd (never_unlinked g.is_way.boundary
    (is_inside 0 transit_entries refl transit_root unlinked g.is_way.boundary
    g.is_way.reaches).reached)

all_known : EachExternal IsKnown transit_entries
all_known = (
  tt,
  (
    tt,
    (
      tt,
      (
        tt,
        (
          tt,
          (tt, (designated_known, (other_known, (forwarded_known, (by_inner, (by_unlinked, tt)))))),
        ),
      ),
    ),
  ),
)

complete : (o : Offer) → Offers contents transit_root o → Contains offers o
complete o (Within x) = one_of (λ (y : Offer). Contains offers y) nearby
    ((0, omega arith, refl), ((1, omega arith, refl), ((2, omega arith, refl), tt))) o (within o x)
complete o (Between x) = absurd (nothing_between 0 transit_entries refl transit_root o x)
complete o (External x) =
    each_external IsKnown transit_entries all_known (key 5 x.id x.originator) x.lsa x.its o
    (is_offer_of contents transit_root o x)

-- ---- the external destinations are offered

designated_offered : Offers contents transit_root designated_offer
designated_offered = External (offered_directly contents transit_root (ipv4 203 0 113 0) designated
    designated_lsa 24 designated_counts refl (way 10 2) reaches_designated)

other_offered : Offers contents transit_root other_offer
other_offered = External (offered_directly contents transit_root (ipv4 203 0 113 0) other other_lsa
    24
    other_counts refl (way 15 6) reaches_other)

forwarded_offered : Offers contents transit_root forwarded_offer
forwarded_offered = External (offered_by_address contents transit_root (ipv4 203 0 114 0) designated
    forwarded_lsa 24 forwarded_counts is_forwarded forward_way forwarded_way (way 10 2)
    reaches_designated)

-- ---- candidates

-- the two offers for the shared network, which are equally good
abbrev IsShared : Offer → Type 0
IsShared o = (designated_offer ≡ o) ⊎ (other_offer ≡ o)

shared : (o : Offer) → Contains offers o → o.prefix ≡ shared_net → IsShared o
shared o t e =
    one_of (λ (x : Offer). x.prefix ≡ shared_net → IsShared x) offers (
      (λ f. absurd (apart (network_8 10) shared_net refl f)),
      (
        (λ f. absurd (apart (network_24 10 1 0) shared_net refl f)),
        (
          (λ f. absurd (apart (network_24 192 0 2) shared_net refl f)),
          (
            (λ f. inl refl),
            (
              (λ f. inr refl),
              ((λ f. absurd (apart (network_24 203 0 114) shared_net refl f)), tt),
            ),
          ),
        ),
      ),
    ) o t e

alike_first : (o : Offer) → IsShared o → IsNoWorse designated_offer o
alike_first o (inl e) = let P : Offer → Type 0 = λ x. IsNoWorse designated_offer x in
    subst P e (no_worse_itself designated_offer)
alike_first o (inr e) = let P : Offer → Type 0 = λ x. IsNoWorse designated_offer x in
    subst P e (IsNoWorse.ByDistance refl refl (omega arith))

alike_second : (o : Offer) → IsShared o → IsNoWorse other_offer o
alike_second o (inl e) = let P : Offer → Type 0 = λ x. IsNoWorse other_offer x in
    subst P e (IsNoWorse.ByDistance refl refl (omega arith))
alike_second o (inr e) = let P : Offer → Type 0 = λ x. IsNoWorse other_offer x in
    subst P e (no_worse_itself other_offer)

designated_best : IsBest contents transit_root shared_net designated_offer
designated_best = record {
  offered = designated_offered;
  is_for = refl;
  best = λ o offered e. alike_first o (shared o (complete o offered) e);
}

other_best : IsBest contents transit_root shared_net other_offer
other_best = record {
  offered = other_offered;
  is_for = refl;
  best = λ o offered e. alike_second o (shared o (complete o offered) e);
}

earliest : (o : Offer) → IsShared o → IsNoLater designated_offer o
earliest o (inl e) = let P : Offer → Type 0 = λ x. IsNoLater designated_offer x in
    subst P e (ByTag refl (omega arith))
earliest o (inr e) = let P : Offer → Type 0 = λ x. IsNoLater designated_offer x in
    subst P e (ByOriginator (omega arith))

joined : (o : Offer) → IsShared o → (i : ℕ) → IsTrue (has_interface o.hops i)
    → IsTrue (has_interface 6 i)
joined o (inl e) i t = subset 2 6 i refl
    (let P : Offer → Type 0 = λ x. IsTrue (has_interface x.hops i) in subst P (sym e) t)
joined o (inr e) i t = let P : Offer → Type 0 = λ x. IsTrue (has_interface x.hops i) in
    subst P (sym e) t

shared_candidate : IsCandidate contents transit_root shared_route
shared_candidate = record {
  first = designated_offer;
  is_best = designated_best;
  earliest = λ o is. earliest o (shared o (complete o is.offered) is.is_for);
  kind = refl;
  cost = refl;
  distance = refl;
  tag = refl;
  hops = λ i. (
    (λ t. (other_offer, other_best, t)),
    (λ h. joined h.0 (shared h.0 (complete h.0 h.1.offered) h.1.is_for) i h.2),
  );
}

abbrev routes : List Route
routes = wide_route ∷ transit_route ∷ behind_route ∷ shared_route ∷ longest_route ∷ []

alone_at : (n : ℕ) (c : Offer) → slice_get offers n ≡ Some c → others_elsewhere n c offers ≡ true
    → IsAlone contents transit_root c
alone_at = lone (Offers contents transit_root) offers complete

sound : AllByRecursion (λ (r : Route). IsCandidate contents transit_root r) routes
sound = (
  alone contents transit_root wide_offer (Within wide_there) (alone_at 0 wide_offer refl refl),
  (
    alone contents transit_root network_offer (Within network_there)
        (alone_at 1 network_offer refl refl),
    (
      alone contents transit_root behind_offer (Within behind_there)
          (alone_at 2 behind_offer refl refl),
      (
        shared_candidate,
        (
          alone contents transit_root forwarded_offer forwarded_offered
              (alone_at 5 forwarded_offer refl refl),
          tt,
        ),
      ),
    ),
  ),
)

pub worked : WorkedTransit
worked = candidates_in contents transit_root offers complete routes sound refl refl
